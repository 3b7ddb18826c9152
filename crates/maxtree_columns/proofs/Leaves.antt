-- Children and leaves in the column of the parents: a pixel is in a regional maximum exactly where its own node has no child.
use mathlib.Core.Path.{◌≡◌, refl, sym, ◌∙◌}
use mathlib.Core.Bool.{Bool, true, false, not, ◌&&◌, ◌||◌}
use mathlib.Core.List.{List}
use Prim.Native.Nat.{ℕ, ◌+◌, ◌<◌}
use native.Mathlib.Numerals.{add-one}
use native.Mathlib.Omega.{arith}
use lib.Dec.{T, ltb, eqb, not_T, T_not, eqb→eq, eqb_refl, ltb→lt, lt→ltb}
use borrow.Author.Tests.{eq-eqb, ne_eqb, lt-ltb}
use Rattle.meaning.specs.Maxima.{maximum}
use Rattle.meaning.specs.Nodes.{own}
use Rattle.meaning.specs.Plate.{grey}
use Rattle.meaning.specs.Sets.{some}
use Rattle.theory_lists.proofs.Sets.{some_elim, some_intro}
use Rattle.theory_lists.proofs.Tests.{both, both_left, both_right, same_test}
use Rattle.theory_tree.proofs.Leaves.{leaf_maximum, maximum_leaf}
use Rattle.work_columns.specs.Columns.{col}
use Rattle.work_columns.specs.Layout.{PARENT, touch_in}
use Rattle.work_columns.specs.declared.Shape.{Shape}
use Rattle.maxtree_columns.specs.Tree.{Tree, nodes_in}
use Rattle.maxtree_columns.proofs.Tree.{tree_grid, tree_nodes}

-- is node j the parent of a node i, 0 < i < count
unfoldable pub has_child : ℕ → (ℕ → ℕ) → ℕ → Bool
unfolding some
has_child count parent j = some count (λ (i : ℕ). ltb 0 i && eqb (parent i) j)

-- node j with the nodes below i as its children
module _ (parent : ℕ → ℕ) where
  pub child_none : (j : ℕ) → has_child 1 parent j ≡ false
  unfolding has_child some
  child_none j = refl

  child_more : (i j : ℕ) → 0 < i → has_child (i + 1) parent j ≡ (eqb (parent i) j || has_child i parent j)
  unfolding has_child some
  child_more i j h = rw (add-one, lt-ltb 0 i h)

  pub child_here : (i : ℕ) → 0 < i → has_child (i + 1) parent (parent i) ≡ true
  child_here i h = child_more i (parent i) h ∙ rw (eq-eqb (parent i) (parent i) refl)

  pub child_other : (i j : ℕ) → 0 < i → (j ≡ parent i → ⊥) → has_child (i + 1) parent j ≡ has_child i parent j
  child_other i j h x = child_more i j h ∙ rw (ne_eqb (parent i) j (λ e. x (sym e)))

module _ {g : Shape} {f w : List ℕ} {count : ℕ} (t : Tree g f w count) where
  abbrev n : ℕ
  n = g.pixels

  -- the node of pixel q, and whether it has a child
  abbrev node_of : ℕ → ℕ
  node_of q = own n (touch_in g) (grey f) (nodes_in g f) q

  abbrev parented : ℕ → Bool
  parented j = has_child count (col PARENT n w) j

  -- node j is the parent of node i
  child : ℕ → ℕ → Bool
  child j i = ltb 0 i && eqb (col PARENT n w i) j

  childless_maximum : (q : ℕ) → q < n → T (not (parented (node_of q))) → T (maximum n (touch_in g) (grey f) q)
  unfolding has_child child
  childless_maximum q l u =
      leaf_maximum (tree_grid t) (tree_nodes t) q l
      (λ i z m e.
      let b : i < count = omega (arith, t.nodes) in
      let x : col PARENT n w i ≡ node_of q = t.parent_is i b ∙ e in
      let here : T (child (node_of q) i) = both (ltb 0 i) (eqb (col PARENT n w i) (node_of q)) (lt→ltb 0 i z) (rw x (eqb_refl (node_of q))) in
      T_not (parented (node_of q)) u (some_intro count (child (node_of q)) i b here))

  maximum_childless : (q : ℕ) → q < n → T (maximum n (touch_in g) (grey f) q) → T (not (parented (node_of q)))
  unfolding has_child child
  maximum_childless q l u =
      not_T (parented (node_of q))
      (λ c.
      let r = some_elim count (child (node_of q)) c in
      let i : ℕ = r.0 in
      let z : 0 < i = ltb→lt 0 i (both_left (ltb 0 i) (eqb (col PARENT n w i) (node_of q)) r.2) in
      let x : col PARENT n w i ≡ node_of q = eqb→eq (col PARENT n w i) (node_of q) (both_right (ltb 0 i) (eqb (col PARENT n w i) (node_of q)) r.2) in
      maximum_leaf (tree_grid t) (tree_nodes t) q l u i z (omega (arith, t.nodes, r.1)) (sym (t.parent_is i r.1) ∙ x))

  pub leaf_is-maximum : (q : ℕ) → q < n → not (parented (node_of q)) ≡ maximum n (touch_in g) (grey f) q
  leaf_is-maximum q l = same_test (not (parented (node_of q))) (maximum n (touch_in g) (grey f) q) (childless_maximum q l) (maximum_childless q l)

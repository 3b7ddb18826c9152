-- From marks to attributes: the nodes hand their marks to their parents, and at the end each has its attribute.
use mathlib.Core.Path.{◌≡◌, sym, ap, ◌∙◌}
use mathlib.Core.Logic.{inl, inr}
use mathlib.Core.Bool.{Bool}
use mathlib.Core.List.{List}
use Prim.Native.Nat.{ℕ, suc, ◌-◌, ◌*◌, ◌≤◌, ◌<◌}
use native.Mathlib.Decide.{dec_lt}
use native.Mathlib.Omega.{arith}
use lib.Dec.{T, eqb, eqb→eq, eqb_refl}
use lib.ListN.{length}
use Rattle.meaning.specs.Nodes.{area_of, holds, own, parent}
use Rattle.meaning.specs.Opening.{Reaches, reaches}
use Rattle.meaning.specs.Plate.{grey, on_trim_edge}
use Rattle.meaning.specs.Sets.{area, pick}
use Rattle.theory_lists.proofs.Tests.{choice, pick_no, pick_yes}
use Rattle.theory_opening.proofs.TrimEdge.{reaches-only, reaches-yes}
use Rattle.theory_tree.specs.Tree.{Ancestor, above, self}
use Rattle.theory_tree.proofs.NodeSets.{nodes_chain, parent_holds}
use Rattle.theory_tree.proofs.Nodes.{over_holds, own_over, parent_below}
use Rattle.work_columns.specs.Columns.{col}
use Rattle.work_columns.specs.Layout.{AREA, ATTRIBUTE, OWN, PARENT, greys_in, touch_in}
use Rattle.work_columns.specs.declared.Shape.{Shape}
use Rattle.maxtree_columns.specs.Tree.{Attributed, Tree, nodes_in}
use Rattle.maxtree_columns.proofs.Tree.{area-part, few_nodes, own_inside, own_node, parent_earlier, tree_grid, tree_marked, tree_nodes, tree_plate}
use Rattle.maxtree_attribute.specs.Attributes.{AreasCopied, Handed, Marked, Raised}

-- the trim edge, and the pixels of node j
abbrev edge : Shape → ℕ → Bool
edge g = on_trim_edge g.width g.height

abbrev set : Shape → List ℕ → ℕ → ℕ → Bool
set g f = holds g.pixels (touch_in g) (grey f) (nodes_in g f)

-- its attribute, its parent, and the own node of a pixel
abbrev att : Shape → List ℕ → ℕ → ℕ
att g w = col ATTRIBUTE g.pixels w

abbrev up : Shape → List ℕ → ℕ → ℕ
up g f = parent g.pixels (touch_in g) (grey f) (nodes_in g f)

abbrev own_of : Shape → List ℕ → ℕ → ℕ
own_of g f = own g.pixels (touch_in g) (grey f) (nodes_in g f)

-- ---- at the start no node has handed its mark on

module _ {g : Shape} {f w w₁ w₂ : List ℕ} {count : ℕ} (t : Tree g f w count) (c : AreasCopied g.pixels count w w₁)
    (m : Marked g.pixels (λ p. T (edge g p)) w₁ w₂) where
  tree₁ : Tree g f w₁ count
  tree₁ = tree_marked t c.only

  tree₂ : Tree g f w₂ count
  tree₂ = tree_marked tree₁ m.only

  area_same : (j : ℕ) → col AREA g.pixels w₂ j ≡ col AREA g.pixels w j
  area_same j =
      ap (λ (k : ℕ → ℕ). k j) (m.only.off AREA (omega arith) (λ x. omega arith) ∙ c.only.off AREA (omega arith) (λ x. omega arith))

  -- the own node of a pixel of the edge reaches it
  own_reaches : (p j : ℕ) → p < g.pixels → T (edge g p) → col OWN g.pixels w₁ p ≡ j → Reaches g.pixels (edge g) (set g f j)
  own_reaches p j l t' e =
      let o : T (set g f (own_of g f p) p) =
      over_holds (tree_grid t) (tree_nodes t) (own_of g f p) p (own_over (tree_grid t) (tree_nodes t) p l) in
      (p, l, rw (sym (tree₁.own_is p l) ∙ e) at o, t')

  pub raised_first : Raised g f w₂ count count
  raised_first = record {
    tree = tree₂;
    each = λ j l. elim (m.others j (omega (arith, few_nodes t))) [
      | inl x ↦ inr (x ∙ c.areas j l ∙ sym (area_same j))
      | inr x ↦ inl (x.0, own_reaches x.1.0 j x.1.1 x.1.2 x.1.3)
    ];
    own_marked = λ p l u.
        ap (λ (k : ℕ → ℕ). att g w₂ (k p)) (m.only.off OWN (omega arith) (λ x. omega arith)) ∙ m.marks p l u;
    handed = λ j a b l x. absurd (omega arith);
  }

-- ---- one more

module _ {g : Shape} {f w w' : List ℕ} {count i : ℕ} (r : Raised g f w count (suc i)) (h : 0 < i) (l : i < count) (a : Handed g.pixels i w w') where
  t : Tree g f w count
  t = r.tree

  parent_same : (j : ℕ) → col PARENT g.pixels w' j ≡ col PARENT g.pixels w j
  parent_same j = ap (λ (k : ℕ → ℕ). k j) (a.only.off PARENT (omega arith) (λ x. omega arith))

  -- a node that has n stays so
  stays : (j : ℕ) → j < g.pixels → att g w j ≡ g.pixels → att g w' j ≡ g.pixels
  stays j m e = elim (a.others j m) [ inl x ↦ x ∙ e | inr x ↦ x.2 ]

  -- node i reaches the edge where it has n, and so does its parent
  parent_reaches : g.pixels ≤ att g w i → (j : ℕ) → j ≡ col PARENT g.pixels w i → Reaches g.pixels (edge g) (set g f j)
  parent_reaches m j e =
      let b : i < length (nodes_in g f) = omega (arith, t.nodes) in
      let e' : j ≡ up g f i = e ∙ t.parent_is i l in
      elim (r.each i l) [
        | inl x ↦
            let q : Reaches g.pixels (edge g) (set g f i) = x.1 in
            (q.0, q.1, rw e' (parent_holds (tree_grid t) (tree_nodes t) i q.0 b q.1 q.2), q.3)
        | inr x ↦ absurd (omega (arith, area-part t i h l))
      ]

  inside : (j : ℕ) → j < count → j < g.pixels
  inside j m = omega (arith, few_nodes t)

  hands : (j : ℕ) → i ≤ j → 0 < j → j < count → g.pixels ≤ att g w' j → att g w' (col PARENT g.pixels w j) ≡ g.pixels
  hands j b p m x = elim (choice (eqb j i)) [
    | inl u ↦
        let e : j ≡ i = eqb→eq j i u in
        rw e (a.marks (had i l (omega arith) (rw e at x)))
    | inr u ↦
        stays (col PARENT g.pixels w j) (inside (col PARENT g.pixels w j) (omega (arith, parent_earlier t j p m)))
        (r.handed j (after j b (λ e. u (rw e (eqb_refl i)))) p m (had j m b x))
  ]
    where
      after : (k : ℕ) → i ≤ k → (k ≡ i → ⊥) → suc i ≤ k
      after k y z = elim (dec_lt i k) [ yes q ↦ q | no q ↦ absurd (z (omega arith)) ]

      -- a node from i on had n already: the parent of i comes before it
      had : (k : ℕ) → k < count → i ≤ k → g.pixels ≤ att g w' k → g.pixels ≤ att g w k
      had k y z q = elim (a.others k (inside k y)) [
        | inl same ↦ omega (arith, same)
        | inr other ↦ absurd (omega (arith, other.1, parent_earlier t i h l))
      ]

  raised_more : Raised g f w' count i
  raised_more = record {
    tree = tree_marked t a.only;
    each = λ j m. elim (a.others j (inside j m)) [
      | inl x ↦ elim (r.each j m) [
        | inl y ↦ inl (x ∙ y.0, y.1)
        | inr y ↦ inr (x ∙ y ∙ sym (ap (λ (k : ℕ → ℕ). k j) (a.only.off AREA (omega arith) (λ z. omega arith))))
      ]
      | inr x ↦ inl (x.2, parent_reaches x.0 j x.1)
    ];
    own_marked = λ p m u.
        ap (λ (k : ℕ → ℕ). att g w' (k p)) (a.only.off OWN (omega arith) (λ x. omega arith))
        ∙ stays (col OWN g.pixels w p) (own_inside t p m) (r.own_marked p m u);
    handed = λ j b p m x. rw (parent_same j) (hands j b p m x);
  }

pub raised_next : {g : Shape} {f w w' : List ℕ} {count i : ℕ} → Raised g f w count i → 1 < i → i ≤ count → Handed g.pixels (i - 1) w w'
    → Raised g f w' count (i - 1)
raised_next {i = i} r h l a =
    let e : i ≡ suc (i - 1) = omega arith in
    raised_more (rw e at r) (omega arith) (omega arith) a

-- ---- at the end each node has its attribute

module _ {g : Shape} {f w : List ℕ} {count : ℕ} (r : Raised g f w count 1) where
  t' : Tree g f w count
  t' = r.tree

  -- from a node that has n upwards all have it
  upwards : (i j : ℕ) → i < count → att g w i ≡ g.pixels → Ancestor (up g f) i j → att g w j ≡ g.pixels
  upwards i j l e self = e
  upwards i j l e (above h x) =
      let earlier : up g f i < i = parent_below (tree_grid t') (tree_nodes t') i h in
      upwards (up g f i) j (omega arith)
      (ap (att g w) (sym (t'.parent_is i l)) ∙ r.handed i h h l (omega (arith, e))) x

  reaching : (i : ℕ) → i < count → Reaches g.pixels (edge g) (set g f i) → att g w i ≡ g.pixels
  reaching i l (p, m, u, v) =
      upwards (own_of g f p) i (own_node t' p m)
      (ap (att g w) (sym (t'.own_is p m)) ∙ r.own_marked p m v)
      ((nodes_chain (tree_grid t') (tree_nodes t') i p (omega (arith, t'.nodes)) m).0 u)

  pixels : g.pixels ≡ g.width * g.height
  pixels = sym t'.pixels ∙ t'.plate.long

  here : (i : ℕ) → i < count → att g w i ≡ pick (reaches g.pixels (edge g) (set g f i)) g.pixels (area g.pixels (set g f i))
  unfolding area_of
  here i l = elim (choice (reaches g.pixels (edge g) (set g f i))) [
    | inl u ↦
        reaching i l (reaches-only g.pixels (edge g) (set g f i) u)
        ∙ sym (pick_yes (reaches g.pixels (edge g) (set g f i)) g.pixels (area g.pixels (set g f i)) u)
    | inr u ↦ elim (r.each i l) [
      | inl x ↦ absurd (u (reaches-yes g.pixels (edge g) (set g f i) x.1))
      | inr x ↦ x ∙ t'.area-is i l ∙ sym (pick_no (reaches g.pixels (edge g) (set g f i)) g.pixels (area g.pixels (set g f i)) u)
    ]
  ]

  pub raised_done : Attributed g f w count
  raised_done = record {
    tree = t';
    attribute-is = λ i l.
        here i l ∙ ap (λ (m : ℕ). pick (reaches m (edge g) (set g f i)) m (area m (set g f i))) pixels;
  }

-- ---- by the plate whose greys stood there

pub raised_here : {g : Shape} {f w : List ℕ} {count from : ℕ} → Raised g f w count from → Raised g (greys_in g.pixels w) w count from
raised_here r = rw (tree_plate r.tree) r

-- The climb to a node that qualifies, and the loop that gives each node its value in the cut.
use mathlib.Core.Path.{◌≡◌, sym, ap, ◌∙◌}
use mathlib.Core.Bool.{Bool, false}
use mathlib.Core.List.{List}
use Prim.Native.Nat.{ℕ, zero, suc, ◌+◌, ◌≤◌, ◌<◌}
use native.Mathlib.Omega.{arith}
use lib.Dec.{T, leb, leb→le, le→leb, nleb→lt}
use Rattle.meaning.specs.Cut.{cut}
use Rattle.meaning.specs.Nodes.{holds}
use Rattle.meaning.specs.Opening.{Criterion, at_least, attribute, opened, opened_at}
use Rattle.meaning.specs.Plate.{grey}
use Rattle.meaning.specs.Sets.{nth, table}
use Rattle.theory_opening.proofs.Opening.{opened_below}
use Rattle.theory_tree.proofs.Cuts.{cut_kept, cut_own, cut_parent, cut-root}
use Rattle.theorems.proofs.Plates.{at_limit, cut-is-opened}
use Rattle.work_columns.specs.Columns.{Only, Stored, col}
use Rattle.work_columns.specs.Layout.{ATTRIBUTE, PARENT, VALUE, greys_in, touch_in}
use Rattle.work_columns.specs.declared.Shape.{Shape}
use Rattle.work_columns.proofs.Columns.{column-more, frame_trans, only_store, only_trans}
use Rattle.maxtree_columns.specs.Tree.{Attributed, Tree, nodes_in}
use Rattle.maxtree_columns.proofs.Tree.{attributed_here, attributed_kept, few_nodes, parent_earlier, tree_grid, tree_nodes, tree_plate}
use Rattle.maxtree_attribute.specs.Attributes.{AttributesSet}
use Rattle.maxtree_values.specs.Values.{Climbable, Climbed, CutOf, ValuesAre}
use Rattle.maxtree_values.proofs.Values.{values_are}

-- ---- one climb

-- from a node that does not qualify: the value is that of its parent, which has a smaller number
module _ {limit n : ℕ} {w : List ℕ} {i : ℕ} (can : Climbable limit n w (suc i)) (x : leb limit (col ATTRIBUTE n w i) ≡ false) {p : ℕ}
    (e : p ≡ col PARENT n w i)
  where
    s : col ATTRIBUTE n w i < limit
    s = nleb→lt limit (col ATTRIBUTE n w i) (rw x tt)

    parent_first : p < i
    parent_first = omega (arith, can.earlier i (omega arith) s)

    pub climbed_parent : {settled r : ℕ} → Climbed limit n w settled p r → Climbed limit n w settled i r
    climbed_parent a = record {
      fits = a.fits;
      value-is = λ v c.
          let l = parent_first in
          a.value-is v (record { kept = λ j h. c.kept j (omega arith); passed = λ j h. c.passed j (omega arith); stored = c.stored })
          ∙ ap v e ∙ sym (c.passed i (omega arith) s);
    }

-- ---- the loop over the nodes of a tree

module _ {g : Shape} {f w : List ℕ} {count : ℕ} (a : Attributed g f w count) (limit : ℕ) (m : limit ≤ g.pixels) where
  t : Tree g f w count
  t = a.tree

  abbrev n : ℕ
  n = g.pixels

  abbrev xs : List ℕ
  xs = nodes_in g f

  abbrev keep : (ℕ → Bool) → Bool
  keep = at_least (attribute g.width g.height) limit

  crit : Criterion n keep
  crit = rw t.pixels at (at_limit t.plate limit (rw t.pixels m))

  -- the value of node i: the opening at its anchor
  abbrev value : ℕ → ℕ
  value i = opened_at n (touch_in g) keep (grey f) (nth xs i)

  qualifies : (i : ℕ) → i < count → limit ≤ col ATTRIBUTE n w i → T (keep (holds n (touch_in g) (grey f) xs i))
  qualifies i l q =
      le→leb limit (attribute g.width g.height (holds n (touch_in g) (grey f) xs i)) (omega (arith, a.attribute-is i l))

  fails : (i : ℕ) → i < count → col ATTRIBUTE n w i < limit → T (keep (holds n (touch_in g) (grey f) xs i)) → ⊥
  fails i l s k =
      omega (arith, a.attribute-is i l, leb→le limit (attribute g.width g.height (holds n (touch_in g) (grey f) xs i)) k)

  not_root : (i : ℕ) → i < count → col ATTRIBUTE n w i < limit → 0 < i
  not_root zero l s = absurd (fails 0 l s (cut-root (tree_grid t) crit (tree_nodes t)))
  not_root (suc i) l s = omega arith

  pub cut_climbable : (i : ℕ) → i < count → Climbable limit n w (suc i)
  cut_climbable i l = record {
    room = t.room;
    few = omega (arith, few_nodes t);
    earlier = λ j h s. parent_earlier t j (not_root j (omega arith) s) (omega arith);
  }

  -- with the values of the first i nodes stored
  cut_of : (i : ℕ) → i < count → ((j : ℕ) → j < i → col VALUE n w j ≡ value j) → CutOf limit n w (suc i) i value
  cut_of i l done = record {
    kept = λ j h q. cut_kept (tree_grid t) crit (tree_nodes t) j (qualifies j (omega arith) q) ∙ sym (t.level_is j (omega arith));
    passed = λ j h s.
        cut_parent (tree_grid t) crit (tree_nodes t) j (not_root j (omega arith) s) (omega (arith, t.nodes)) (fails j (omega arith) s)
        ∙ ap value (sym (t.parent_is j (omega arith)));
    stored = λ j h. sym (done j h);
  }

  pub cut-value : (i : ℕ) → i < count → ((j : ℕ) → j < i → col VALUE n w j ≡ value j) → {r : ℕ} → Climbed limit n w i i r → r ≡ value i
  cut-value i l done c = c.value-is value (cut_of i l done)

-- the first i nodes have their values
pub record Cutting (g : Shape) (f : List ℕ) (count limit : ℕ) (w w' : List ℕ) (i : ℕ) : Type 0 where
  pub bound : i ≤ count
  pub only : Only VALUE g.pixels w w'
  pub attributed : Attributed g f w' count
  pub fits : limit ≤ g.pixels
  pub values : (j : ℕ) → j < i → col VALUE g.pixels w' j ≡ value attributed limit fits j

module _ {g : Shape} {f w : List ℕ} {count limit : ℕ} where
  module _ {w' : List ℕ} {i : ℕ} (a : Cutting g f count limit w w' i) where
    pub cutting_climbable : i < count → Climbable limit g.pixels w' (suc i)
    cutting_climbable l = cut_climbable a.attributed limit a.fits i l

    pub cutting_more : {w'' : List ℕ} {r : ℕ} → i < count → Climbed limit g.pixels w' i i r → Stored w' w'' g.pixels VALUE i r
        → Cutting g f count limit w w'' (i + 1)
    cutting_more l c s = record {
      bound = omega arith;
      only = only_trans a.only (only_store s);
      attributed = attributed_kept a.attributed (only_store s);
      fits = a.fits;
      values = column-more (value a.attributed limit a.fits) s (omega (arith, few_nodes a.attributed.tree))
          (cut-value a.attributed limit a.fits i l a.values c) a.values;
    }

    pub cutting_done : Attributed g f w count → count ≤ i → ValuesAre g.pixels g.greatest (cut g.connectivity g.width g.height limit f) w w'
    unfolding opened
    cutting_done first l =
        let t = first.tree in
        let c = crit first limit a.fits in
        let h : ℕ → ℕ = opened_at g.pixels (touch_in g) (keep first limit a.fits) (grey f) in
        let e : table g.pixels h ≡ cut g.connectivity g.width g.height limit f =
        rw (← t.pixels) (sym (cut-is-opened t.plate limit (rw t.pixels a.fits))) in
        rw (← e)
        (values_are t a.only (value first limit a.fits) h (λ j b. a.values j (omega (arith, a.bound)))
        (λ p b. sym (cut_own (tree_grid t) c (tree_nodes t) p b))
        (λ p b. omega (arith, opened_below (tree_grid t) c (grey f) p, t.plate.greys p (omega (arith, t.pixels)))))

-- by the plate whose greys stood there before the attributes were set
pub cut-done : {g : Shape} {w w₁ w₂ : List ℕ} {count limit i : ℕ} → AttributesSet g w w₁ count
    → Cutting g (greys_in g.pixels w₁) count limit w₁ w₂ i → count ≤ i
    → ValuesAre g.pixels g.greatest (cut g.connectivity g.width g.height limit (greys_in g.pixels w)) w w₂
cut-done {g} {limit = limit} s a l =
    let v = cutting_done a (attributed_here s.attributed) l in
    record {
      frame = frame_trans s.only.frame v.frame;
      writable = v.writable;
      by_pixel = v.by_pixel ∙ ap (cut g.connectivity g.width g.height limit) (tree_plate s.attributed.tree);
    }

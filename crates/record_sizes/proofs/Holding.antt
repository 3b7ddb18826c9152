-- The loop over the nodes after the root that adds up the grey held.
use mathlib.Core.Path.{◌≡◌, refl, ap, ◌∙◌}
use mathlib.Core.List.{List}
use Prim.Native.Nat.{ℕ, zero, suc, ◌+◌, ◌-◌, ◌*◌, ◌≤◌, ◌<◌}
use native.Mathlib.Nat.{suc-mul}
use native.Mathlib.Omega.{arith}
use lib.Dec.{leb}
use Rattle.meaning.specs.Cut.{held}
use Rattle.meaning.specs.Sets.{sum}
use Rattle.theory_lists.proofs.Tests.{pick_le}
use Rattle.work_columns.specs.Columns.{col}
use Rattle.work_columns.specs.Layout.{ATTRIBUTE}
use Rattle.work_columns.specs.declared.Shape.{Shape}
use Rattle.maxtree_columns.specs.Tree.{Attributed}
use Rattle.maxtree_columns.proofs.Tree.{some-nodes}
use Rattle.record_sizes.specs.Sizes.{held_by, held_of, loss_of, most_lost}
use Rattle.record_sizes.proofs.Listing.{listed_held, loss_low}

-- ---- the loop

-- the grey held with the nodes from 1 to j - 1
pub record Holding (g : Shape) (w : List ℕ) (count r j : ℕ) : Type 0 where
  pub begun : 1 ≤ j
  pub bound : j ≤ count
  pub made : r ≡ held_by g.pixels w (j - 1)

module _ {g : Shape} {f w : List ℕ} {count : ℕ} (t : Attributed g f w count) where
  pub holding_first : Holding g w count 0 1
  unfolding held_by sum
  holding_first = record { begun = omega arith; bound = omega (arith, some-nodes t.tree); made = refl }

  held_more : (k : ℕ) → held_by g.pixels w (suc k) ≡ held_of g.pixels w (suc k) + held_by g.pixels w k
  unfolding held_by sum
  held_more k = refl

  held_low : (k : ℕ) → k < count → held_by g.pixels w k ≤ k * most_lost
  unfolding held_by sum
  held_low zero l = omega arith
  held_low (suc k) l =
      omega (
        arith,
        suc-mul k most_lost,
        held_low k (omega arith),
        pick_le (leb g.pixels (col ATTRIBUTE g.pixels w (suc k))) (loss_of g.pixels w (suc k)) most_lost
            (λ b. loss_low t.tree (suc k) (omega arith) l),
      )

  module _ {r j : ℕ} (a : Holding g w count r j) where
    pub holding_low : r ≤ j * most_lost
    holding_low = omega (arith, a.begun, a.bound, a.made, held_low (j - 1) (omega (arith, a.begun, a.bound)))

    pub holding_more : {x : ℕ} → j < count → x ≡ held_of g.pixels w j → Holding g w count (r + x) (j + 1)
    holding_more {x} l e =
        let here : suc (j - 1) ≡ j = omega (arith, a.begun) in
        let next : suc (j - 1) ≡ j + 1 - 1 = omega (arith, a.begun) in
        record {
          begun = omega arith;
          bound = omega arith;
          made = omega (arith, a.made, e, held_more (j - 1), ap (held_of g.pixels w) here, ap (held_by g.pixels w) next);
        }

    pub holding_done : count ≤ j → r ≡ held g.connectivity g.width g.height f
    holding_done l = let x : j ≡ count = omega (arith, a.bound) in rw x at a.made ∙ listed_held t

-- A tree that stands in the work space: its greys fit an output, and its nodes are few.
use mathlib.Core.Path.{ap}
use mathlib.Core.List.{List}
use Prim.Native.Nat.{ℕ, ◌≤◌}
use native.Mathlib.Omega.{arith}
use lib.ListN.{length}
use Rattle.work_columns.specs.declared.Shape.{Shape}
use Rattle.theory_connectivity.proofs.Sizes.{greatest_range}
use Rattle.maxtree_columns.specs.Tree.{TreeStands}
use Rattle.maxtree_columns.proofs.Tree.{few_nodes}
use Rattle.plate_refusals.proofs.Refusals.{taken_few}
use Rattle.record_tree.specs.Found.{GreysStand}

module _ {g : Shape} {w : List ℕ} {count : ℕ} (t : TreeStands g w count) where
  pub greys_stand : {out : List ℕ} → g.pixels ≤ length out → GreysStand g.pixels w out
  greys_stand places = record {
    room = t.room;
    greys = λ p l.
        omega (
          arith,
          ap (λ (h : ℕ → ℕ). h p) t.greys,
          t.plate.greys p (omega (arith, t.pixels)),
          (greatest_range g.greatest t.plate.range).most,
        );
    places = places;
  }

  pub nodes_few : count ≤ 16777216
  nodes_few = omega (arith, taken_few t.plate, t.pixels, few_nodes t)

-- `maxtree_values::write_values` meets its contract. The invariant: the first p values are written.
use mathlib.Core.Path.{◌≡◌}
use Prim.Native.Nat.{ℕ, ◌<◌}
use lib.ListN.{get_or}
use Rattle.plate_greys.specs.Sides.{side_grey}
use Rattle.maxtree_values.specs.Values.{value_at}
use Rattle.maxtree_values.proofs.write_values.Given as goal

abbrev pub invariant-loop-p : goal.invariant-loop-p
invariant-loop-p l = (k : ℕ) → k < l.p → get_or l.place-items k 0 ≡ side_grey l.negated l.greatest (value_at l.n l.w k)

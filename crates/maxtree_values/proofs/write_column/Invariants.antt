-- `maxtree_values::write_column` meets its contract. The invariant: the first i entries are written.
use mathlib.Core.Path.{◌≡◌}
use Prim.Native.Nat.{ℕ, ◌<◌}
use lib.ListN.{get_or}
use Rattle.work_columns.specs.Columns.{col}
use Rattle.maxtree_values.proofs.write_column.Given as goal

abbrev pub invariant-loop-i : goal.invariant-loop-i
invariant-loop-i l = (k : ℕ) → k < l.i → get_or l.place-items k 0 ≡ col l.c l.n l.w k

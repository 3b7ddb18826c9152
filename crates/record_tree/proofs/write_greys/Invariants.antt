-- `record_tree::write_greys` meets its contract. The invariant: the first p greys are written, and the others are as they were.
use mathlib.Core.Path.{◌≡◌}
use mathlib.Core.List.{◌++◌}
use lib.ListN.{length, drop}
use Rattle.meaning.specs.Sets.{table}
use Rattle.work_columns.specs.Columns.{col}
use Rattle.work_columns.specs.Layout.{GREY}
use Rattle.record_tree.proofs.write_greys.Given as goal

abbrev pub invariant-loop-p : goal.invariant-loop-p
invariant-loop-p l = (length l.out ≡ length l.initial.out) × (l.out ≡ table l.p (col GREY l.n l.w) ++ drop l.p l.initial.out)

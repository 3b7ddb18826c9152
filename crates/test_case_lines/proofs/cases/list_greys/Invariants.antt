-- `cases::list_greys` is safe and ends: each repeated number moves on.
use Rattle.std.proofs.Common.{length, ◌-◌, ◌≤◌}
use Rattle.test_case_lines.proofs.cases.list_greys.Given as goal

abbrev pub invariant-loop-at : goal.invariant-loop-at
invariant-loop-at l = l.n ≤ length l.greys

abbrev pub decreases-loop-at : goal.decreases-loop-at
decreases-loop-at l = length l.line - l.at

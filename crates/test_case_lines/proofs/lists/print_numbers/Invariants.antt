-- `lists::print_numbers` is safe: a run is no longer than the list so far.
use Rattle.std.proofs.Common.{◌≤◌}
use Rattle.test_case_lines.proofs.lists.print_numbers.Given as goal

abbrev pub invariant-loop-n : goal.invariant-loop-n
invariant-loop-n g l = l.run.count ≤ l.n-index

-- `cases::number_at` is safe: the number stays below 2^32.
use Rattle.std.proofs.Common.{◌<◌}
use Rattle.test_case_lines.proofs.cases.number_at.Given as goal

abbrev pub invariant-loop-i : goal.invariant-loop-i
invariant-loop-i l = l.value < 4294967296

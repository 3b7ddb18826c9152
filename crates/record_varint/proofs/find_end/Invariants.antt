-- `record_varint::find_end` meets its contract. The loop's invariant: what leads from i on is what is left of what leads from `at` on.
-- Assumes nothing.
use Rattle.std.proofs.Common.{◌≡◌, ◌+◌, drop}
use Rattle.record_varint.specs.Field.{continued}
use Rattle.record_varint.proofs.find_end.Given as goal

abbrev pub invariant-loop-i : goal.invariant-loop-i
invariant-loop-i l = l.i + continued (drop l.i l.s) ≡ l.at + continued (drop l.at l.s)

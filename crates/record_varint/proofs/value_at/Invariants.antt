-- `record_varint::value_at` meets its contract. The loop's invariant: v is the number that the groups from i on spell.
-- Assumes nothing.
use Rattle.record_varint.proofs.Position.{FieldSpelt}
use Rattle.record_varint.proofs.value_at.Given as goal

abbrev pub invariant-loop-i : goal.invariant-loop-i
invariant-loop-i l = FieldSpelt l.s l.at l.end l.i l.v

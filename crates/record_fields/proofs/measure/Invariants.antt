-- `record_fields::measure` meets its contract. The invariant: the first i fields are measured.
use Rattle.record_varint.proofs.Loops.{Measured}
use Rattle.record_fields.specs.Fields.{column_fields}
use Rattle.record_fields.proofs.measure.Given as goal

abbrev pub invariant-loop-i : goal.invariant-loop-i
invariant-loop-i l = Measured (column_fields l.t.shape l.w l.t.count) l.i l.size

-- `record_fields::write` meets its contract. The invariant: the first i fields are written.
use Rattle.record_varint.proofs.Loops.{Wrote}
use Rattle.record_fields.specs.Fields.{column_fields}
use Rattle.record_fields.proofs.write.Given as goal

abbrev pub invariant-loop-i : goal.invariant-loop-i
invariant-loop-i l = Wrote (column_fields l.t.shape l.w l.t.count) l.initial.out l.out l.i l.at

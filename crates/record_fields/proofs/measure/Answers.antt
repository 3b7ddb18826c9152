-- `record_fields::measure` meets its contract. The invariant: the first i fields are measured.
-- Assumes nothing.
use Rattle.std.proofs.Common.{arith}
use Rattle.record_varint.proofs.Groups.{varint-most}
use Rattle.record_fields.proofs.Fields.{column_few}
use Rattle.record_fields.proofs.Loops.{measuring_done, measuring_more}
use Rattle.record_fields.proofs.measure.Goals as goal

pub overflow_add-size : goal.overflow_add-size
overflow_add-size c = omega (arith, c.loop-i.invariant.most, column_few c.requires, varint-most c.field_at.result)

pub loop-i-preserved : goal.loop-i-preserved
loop-i-preserved c = measuring_more c.requires c.loop-i.invariant (omega arith) c.field_at.ensures c.field_size-size.ensures

pub returns : goal.returns
returns c = measuring_done c.requires c.loop-i.invariant (omega arith)

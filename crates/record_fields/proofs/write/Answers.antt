-- `record_fields::write` meets its contract. The invariant: the first i fields are written.
-- Assumes nothing.
use Rattle.std.proofs.Common.{arith}
use Rattle.record_fields.proofs.Loops.{writing_done, writing_more, writing_room}
use Rattle.record_fields.proofs.write.Goals as goal

pub put_field-at-requires : goal.put_field-at-requires
put_field-at-requires c = writing_room c.requires.tree_stands c.loop-i.invariant c.requires.w_in_bounds (omega arith) c.field_at.ensures

pub loop-i-preserved : goal.loop-i-preserved
loop-i-preserved c =
    writing_more c.requires.tree_stands c.loop-i.invariant c.requires.w_in_bounds (omega arith) c.field_at.ensures c.put_field-at.ensures.value
    c.put_field-at.ensures.out_after

pub returns : goal.returns
returns c = writing_done c.requires.tree_stands c.loop-i.invariant c.requires.w_in_bounds (omega arith)

-- `record_fields::same` meets its contract. The invariant: the bytes begin with the form's fields ahead of field i.
-- Assumes nothing.
use Rattle.std.proofs.Common.{arith}
use Rattle.record_fields.proofs.Loops.{comparing_differs, comparing_done, comparing_more}
use Rattle.record_fields.proofs.same.Goals as goal

pub returns-in_default : goal.returns-in_default
returns-in_default c =
    comparing_differs c.requires c.args.new (omega arith) c.loop-i.invariant (omega arith) c.field_at.ensures c.in_default.ensures

pub loop-i-preserved : goal.loop-i-preserved
loop-i-preserved c =
    comparing_more c.requires c.args.new (omega arith) c.loop-i.invariant (omega arith) c.field_at.ensures c.in-Some.ensures

pub returns : goal.returns
returns c = comparing_done c.requires c.args.new (omega arith) c.loop-i.invariant (omega arith)

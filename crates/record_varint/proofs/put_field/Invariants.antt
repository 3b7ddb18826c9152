-- `record_varint::put_field` meets its contract. The loop's invariant: what is left to be stored, stored on the list as it is, gives the whole.
-- Assumes nothing.
use Rattle.record_varint.proofs.Writing.{Left}
use Rattle.record_varint.proofs.put_field.Given as goal

abbrev pub invariant-loop-x : goal.invariant-loop-x
invariant-loop-x l = Left l.initial.out l.at l.v l.out l.i l.x

abbrev pub decreases-loop-x : goal.decreases-loop-x
decreases-loop-x l = l.x

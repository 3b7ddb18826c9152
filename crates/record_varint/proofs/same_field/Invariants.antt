-- `record_varint::same_field` meets its contract. The loop's invariant: what is left to be compared decides.
-- Assumes nothing.
use Rattle.record_varint.proofs.Comparing.{Compared}
use Rattle.record_varint.proofs.same_field.Given as goal

abbrev pub invariant-loop-x : goal.invariant-loop-x
invariant-loop-x l = Compared l.s l.at l.v l.i l.x

abbrev pub decreases-loop-x : goal.decreases-loop-x
decreases-loop-x l = l.x

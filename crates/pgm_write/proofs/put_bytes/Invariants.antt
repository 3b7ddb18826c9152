-- The bytes of p pixels are put.
use Rattle.text_lines.proofs.Pieces.{Putting}
use Rattle.pgm_write.proofs.put_bytes.Given as goal

abbrev pub invariant-loop-p : goal.invariant-loop-p
invariant-loop-p l = Putting l.initial.text l.at l.image l.text l.p

-- The two bytes of each of p pixels are put.
use Prim.Native.Nat.{◌*◌}
use Rattle.text_lines.proofs.Pieces.{Putting}
use Rattle.pgm_write.specs.Writing.{byte_pairs}
use Rattle.pgm_write.proofs.put_pairs.Given as goal

abbrev pub invariant-loop-p : goal.invariant-loop-p
invariant-loop-p l = Putting l.initial.text l.at (byte_pairs l.image) l.text (2 * l.p)

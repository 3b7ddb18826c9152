-- The loop that works a number out, digit by digit.
use Rattle.pgm_header.proofs.Digits.{Spelling}
use Rattle.pgm_header.proofs.digits_value.Given as goal

abbrev pub invariant-loop-b : goal.invariant-loop-b
invariant-loop-b l = Spelling l.digits l.b-index l.v

-- The loop that works a number out, digit by digit.
use Rattle.pgm_header.proofs.Digits.{spelling_digit, spelling_more, spelling_done}
use Rattle.pgm_header.proofs.digits_value.Goals as goal

pub overflow_sub-b : goal.overflow_sub-b
overflow_sub-b c = (spelling_digit c.requires c.loop-b.invariant c.loop-b-test.true).0

pub loop-b-preserved : goal.loop-b-preserved
loop-b-preserved c = rw c.from.ensures (spelling_more c.requires c.loop-b.invariant c.loop-b-test.true)

pub returns : goal.returns
returns c = spelling_done c.requires c.loop-b.invariant c.loop-b-test.false

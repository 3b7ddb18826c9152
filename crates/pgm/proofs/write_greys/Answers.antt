-- `pgm::write_greys` meets its contract: the greys that are written so far are pasted over the front of the output.
use native.Mathlib.Omega.{arith}
use lib.Seq.{length-take-le}
use Rattle.pgm.proofs.Writing.{writing_first, writing_more, writing_done}
use Rattle.pgm.proofs.write_greys.Goals as goal

pub loop-p-init : goal.loop-p-init
loop-p-init c =
    let n = c.pixel_count-pixels.result in
    writing_first _ _ (let e = length-take-le n c.args.out.now (omega (arith, c.requires, c.pixel_count-pixels.ensures)) in omega (arith, c.pixel_count-pixels.ensures))

pub loop-p-preserved : goal.loop-p-preserved
loop-p-preserved c = rw c.grey_at.ensures (writing_more c.loop-p.invariant c.loop-p-test.true)

pub returns : goal.returns
returns c = rw (writing_done c.loop-p.invariant c.loop-p-test.false, c.pixel_count-pixels.ensures)

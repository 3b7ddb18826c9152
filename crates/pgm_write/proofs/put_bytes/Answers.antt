-- The bytes of p pixels are put.
use native.Mathlib.Omega.{arith}
use Rattle.meaning.specs.Plate.{byte_greatest}
use Rattle.plate_refusals.proofs.Refusals.{none_above}
use Rattle.text_lines.proofs.Pieces.{putting_more}
use Rattle.pgm_write.proofs.put_bytes.Goals as goal

pub overflow_cast-text : goal.overflow_cast-text
overflow_cast-text c = omega (arith, none_above byte_greatest c.args.image.now c.requires.image_value c.loop-p.p c.loop-p-test.true)

pub loop-p-preserved : goal.loop-p-preserved
loop-p-preserved c = putting_more c.loop-p.invariant c.loop-p-test.true

-- The two bytes of each of p pixels are put.
use mathlib.Core.Path.{◌≡◌, refl, ◌∙◌}
use native.Mathlib.Omega.{arith}
use lib.ListN.{length}
use Rattle.text_lines.proofs.Pieces.{putting_done}
use Rattle.pgm_write.proofs.Rasters.{byte_pairs-length, putting_pair}
use Rattle.pgm_write.proofs.put_pairs.Goals as goal

pub loop-p-init : goal.loop-p-init
loop-p-init c =
    record { within = omega arith; room = omega (arith, c.requires, byte_pairs-length c.args.image.now); long = refl; stored = refl }

pub loop-p-preserved : goal.loop-p-preserved
loop-p-preserved c =
    let p = c.loop-p.p in
    putting_pair c.args.image.now p c.loop-p.invariant c.loop-p-test.true (omega (arith, c.type_inv.image p))
    (c.copy_from_slice.ensures.after ∙ c.to_be_bytes.ensures)

pub returns : goal.returns
returns c =
    let long = byte_pairs-length c.args.image.now in
    let all : c.loop-p.p ≡ length c.args.image.now = omega arith in
    rw all at (putting_done c.loop-p.invariant (omega (arith, long)))

-- `text_sizelist::put_text` meets its contract: too long, refused by reading, or the text of the plate that was read.
use Rattle.std.proofs.Common.{arith, length-take-le, refl, replicate, sym}
use Rattle.meaning.specs.Plate.{connectivity_fits}
use Rattle.text_plate.specs.Text.{most_pixels}
use Rattle.text_sizelist.proofs.Files.{plate_is, read_is, text_long, text_plate, text_refused}
use Rattle.text_sizelist.proofs.put_text.Goals as goal

pub returns-then-file-gt-INPUT_BYTES : goal.returns-then-file-gt-INPUT_BYTES
returns-then-file-gt-INPUT_BYTES c = rw (text_long c.args.file.now c.if-file-gt-INPUT_BYTES.true) at c.put_refused.ensures

pub returns-in-Err : goal.returns-in-Err
returns-in-Err c =
    rw (text_refused c.args.file.now c.in-Err.refusal c.if-file-gt-INPUT_BYTES.false c.in-Err.ensures.value) at c.put_refused-in-Err.ensures

pub pixels-requires : goal.pixels-requires
pixels-requires c = (read_is c.args.file.now (replicate most_pixels 0) c.in-Ok.ensures.value c.in-Ok.ensures.out_after).sizes

pub slice_bounds-plate-end : goal.slice_bounds-plate-end
slice_bounds-plate-end c =
    let r = read_is c.args.file.now (replicate most_pixels 0) c.in-Ok.ensures.value c.in-Ok.ensures.out_after in
    omega (arith, c.pixels.ensures, r.fits)

pub slice_bounds-greys-end : goal.slice_bounds-greys-end
slice_bounds-greys-end c =
    let r = read_is c.args.file.now (replicate most_pixels 0) c.in-Ok.ensures.value c.in-Ok.ensures.out_after in
    sym (length-take-le _ _ (omega (arith, c.pixels.ensures, r.fits)))

pub put_plate-requires : goal.put_plate-requires
unfolding connectivity_fits
put_plate-requires c =
    let e = c.in-Ok.ensures in
    let r = read_is c.args.file.now (replicate most_pixels 0) e.value e.out_after in
    let is = plate_is c.args.file.now (replicate most_pixels 0) e.value e.out_after in
    rw (c.pixels.ensures, is)
    (record {
      plate = record { kind = refl; sizes = r.sizes; range = r.range; long = r.long; greys = r.greys };
      small = omega (arith, r.long, r.fits);
      room = omega (arith, r.long, r.fits, c.requires);
    })

pub returns-in-Ok : goal.returns-in-Ok
returns-in-Ok c =
    let e = c.in-Ok.ensures in
    let is = plate_is c.args.file.now (replicate most_pixels 0) e.value e.out_after in
    rw (c.pixels.ensures, is, text_plate c.args.file.now c.in-Ok.head c.if-file-gt-INPUT_BYTES.false e.value) at c.put_plate.ensures.puts

-- `pgm_write::write_pgm` meets its contract: a refusal, or the header and then the raster.
use mathlib.Core.Path.{◌≡◌, sym, ◌∙◌}
use Prim.Native.Nat.{◌+◌}
use native.Mathlib.Omega.{arith}
use lib.ListN.{length, take}
use Rattle.meaning.specs.Plate.{Plate}
use Rattle.text_lines.specs.Lines.{PutText}
use Rattle.text_lines.proofs.Pieces.{put_front, put_length, put_put}
use Rattle.plate_refusals.proofs.Refusals.{out_none}
use Rattle.pgm_write.specs.Writing.{header_lines, pgm_of}
use Rattle.pgm_write.proofs.Outcomes.{file_length, file_size, write_done, write_first, write_short, write_taken}
use Rattle.pgm_write.proofs.Rasters.{raster_length}
use Rattle.pgm_write.proofs.write_pgm.Goals as goal
use Rattle.pgm_write.proofs.write_pgm.Goals.{After-raster_bytes}

plate : (c : After-raster_bytes) → let h = c.args.head in Plate 4 h.width h.height h.greatest c.args.image.now
plate c = write_taken _ _ _ _ c.args.out.now c.in_ok-check_image.ensures

header-long : (c : After-raster_bytes) → let h = c.args.head in c.put_header-raster.result ≡ length (header_lines h.width h.height h.greatest)
header-long c = omega (arith, c.put_header-raster.ensures.put_text.after)

-- the header stands at the front of the array
header_is : (c : After-raster_bytes) → let h = c.args.head in
    take c.put_header-raster.result c.put_header-raster.new.text ≡ header_lines h.width h.height h.greatest
header_is c = put_front c.put_header-raster.ensures.put_text

-- the length that is found
size_is : (c : After-raster_bytes) → let h = c.args.head in
    c.put_header-raster.result + c.raster_bytes.result ≡ length (pgm_of h.width h.height h.greatest c.args.image.now)
size_is c = file_size (plate c) (header-long c) c.raster_bytes.ensures

pub returns-in_err-check_image : goal.returns-in_err-check_image
returns-in_err-check_image c =
    let h = c.args.head in
    let both = write_first h.width h.height h.greatest c.args.image.now c.args.out.now _ _ c.from_residual.ensures.1 c.in_err-check_image.ensures in
    record { value = both.0; out_after = both.1 }

pub returns-in_err-check_out : goal.returns-in_err-check_out
returns-in_err-check_out c =
    let h = c.args.head in
    let found = (goal.at.returns-in_err-check_out c).After-raster_bytes in
    let both = write_short h.width h.height h.greatest c.args.image.now c.args.out.now (plate found) (size_is found) _ _
    c.from_residual-in_err-check_out.ensures.1 c.in_err-check_out.ensures in
    record { value = both.0; out_after = both.1 }

pub put_raster-requires-clause-image_in_bounds : goal.put_raster-requires-clause-image_in_bounds
put_raster-requires-clause-image_in_bounds c =
    let h = c.args.head in
    let found = (goal.at.put_raster-requires-clause-image_in_bounds c).After-raster_bytes in
    let long = raster_length h.greatest c.args.image.now in
    let room = (out_none _ _ 0 (sym c.in_ok-check_out.ensures)).0 in
    omega (arith, size_is found, header-long found, file_length h.width h.height h.greatest c.args.image.now, long, room, put_length c.put_word.ensures)

pub returns : goal.returns
unfolding pgm_of
returns c =
    let h = c.args.head in
    let found = (goal.at.returns c).After-raster_bytes in
    let room = (out_none _ _ 0 (sym c.in_ok-check_out.ensures)).0 in
    let front : PutText c.args.out.now 0 (header_lines h.width h.height h.greatest) c.put_word.new.text c.put_header-raster.result =
    record {
      after = omega (arith, header-long found);
      room = omega (arith, room);
      stored = c.put_word.ensures.stored ∙ rw (header_is found);
    } in
    let whole = put_put front c.put_raster.ensures in
    let both = write_done h.width h.height h.greatest c.args.image.now c.args.out.now (plate found) (size_is found) c.in_ok-check_out.ensures whole.stored in
    record { value = both.0; out_after = both.1 }

-- `pgm_roll::raster_at` meets its contract: 2, 12, 14 or 28, or the plate after the header.
use mathlib.Core.Path.{refl}
use Rattle.pgm_roll.proofs.Places.{at_above, at_whole, short_at}
use Rattle.pgm_roll.proofs.raster_at.Goals as goal

pub returns-in_err-check_short : goal.returns-in_err-check_short
returns-in_err-check_short c =
    let h = c.args.head in
    short_at c.args.file.now c.args.at h.width h.height h.greatest c.requires _ _ c.from_residual.ensures.1 c.in_err-check_short.ensures

pub returns-then-grey_above : goal.returns-then-grey_above
returns-then-grey_above c =
    let h = c.args.head in
    at_above c.args.file.now c.args.at h.width h.height h.greatest c.requires c.in_ok-check_short.ensures c.raster_bytes.ensures c.grey_above.ensures
    c.if-grey_above.true refl

pub returns : goal.returns
returns c =
    let h = c.args.head in
    at_whole c.args.file.now c.args.at h.width h.height h.greatest c.requires c.in_ok-check_short.ensures c.raster_bytes.ensures c.grey_above.ensures
    c.if-grey_above.false

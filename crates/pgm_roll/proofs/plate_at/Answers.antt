-- `pgm_roll::plate_at` meets its contract: the header is faulty, or the plate after it is refused or found.
use Rattle.pgm_roll.proofs.Places.{at_faulty, at_header}
use Rattle.pgm_roll.proofs.plate_at.Goals as goal

pub returns-in_err-header : goal.returns-in_err-header
returns-in_err-header c = at_faulty c.args.file.now c.args.at _ _ c.from_residual.ensures.1 c.in_err-header.ensures.result_value

pub returns : goal.returns
returns c =
    let h = c.in_ok-header.header in
    at_header c.args.file.now c.args.at h.width h.height h.greatest h.raster.at c.in_ok-header.ensures.result_value
    (rw c.from.ensures at c.raster_at.ensures)

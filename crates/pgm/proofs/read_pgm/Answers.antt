-- A plate file: its header is faulty, or the plate after it is refused or read.
use Rattle.theory_lists.proofs.Lists.{take_rest}
use Rattle.pgm.proofs.Reading.{file_refused, file_read}
use Rattle.pgm.proofs.read_pgm.Goals as goal

pub returns-in_err-header : goal.returns-in_err-header
returns-in_err-header c =
    let both = file_refused c.args.file.now c.args.out.now _ _ c.from_residual.ensures.1 c.in_err-header.ensures.result_value in
    record { value = both.0; out_after = both.1 }

pub returns : goal.returns
returns c =
    let k = rw (take_rest c.args.file.now c.in_ok-header.header.raster.at, c.from.ensures) at c.read_plate.ensures in
    let both = file_read c.args.file.now c.args.out.now c.in_ok-header.ensures.result_value k in
    record { value = both.0; out_after = both.1 }

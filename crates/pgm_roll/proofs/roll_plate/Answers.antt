-- `pgm_roll::roll_plate` meets its contract: the roll is refused, the number is not below the count, the output is short, or the plate is written.
use Rattle.pgm_roll.specs.Roll.{numbered, place_answer, roll}
use Rattle.pgm_roll.specs.Scan.{Stands}
use Rattle.pgm_roll.proofs.Places.{stands_sizes}
use Rattle.pgm_roll.proofs.Reading.{handed_on, scan_beyond, scan_fits, scan_read, scan_refused, scan_short, there}
use Rattle.std.proofs.Common.{Ok}
use Rattle.pgm_roll.proofs.roll_plate.Goals as goal
use Rattle.pgm_roll.proofs.roll_plate.Goals.{In-Some}

-- the plate that was looked for is in the roll
stands : (c : In-Some) → Stands c.args.file.now (place_answer (Ok c.in-Some.plate)) (numbered (roll c.args.file.now) c.args.number)
stands c = there c.args.file.now c.args.number c.args.out.now c.in_ok-scan.ensures c.in-Some.is

pub returns-in_err-scan : goal.returns-in_err-scan
returns-in_err-scan c =
    let a = c.args in
    let both = handed_on a.file.now a.number a.out.now _ _ c.from_residual.ensures.1
    (scan_refused a.file.now a.number a.out.now _ c.in_err-scan.ensures) in
    record { value = both.0; out_after = both.1 }

pub returns-in_default : goal.returns-in_default
returns-in_default c =
    let both = scan_beyond c.args.file.now c.args.number c.args.out.now c.in_ok-scan.ensures c.in_default.is in
    record { value = both.0; out_after = both.1 }

pub pixels-requires : goal.pixels-requires
pixels-requires c = stands_sizes (stands (goal.at.pixels-requires c).In-Some)

pub returns-in_err-check_out : goal.returns-in_err-check_out
returns-in_err-check_out c =
    let a = c.args in
    let is = rw c.pixels.ensures at c.in_err-check_out.ensures in
    let both = handed_on a.file.now a.number a.out.now _ _ c.from_residual-in_err-check_out.ensures.1
    (scan_short a.file.now a.number a.out.now c.in_ok-scan.ensures c.in-Some.is _ is) in
    record { value = both.0; out_after = both.1 }

pub slice_bounds-write_greys-count : goal.slice_bounds-write_greys-count
slice_bounds-write_greys-count c = (stands (goal.at.slice_bounds-write_greys-count c).In-Some).from

pub write_greys-requires : goal.write_greys-requires
write_greys-requires c =
    scan_fits c.args.file.now c.args.number c.args.out.now c.in_ok-scan.ensures c.in-Some.is (rw c.pixels.ensures at c.in_ok-check_out.ensures)

pub returns : goal.returns
returns c =
    let both = scan_read c.args.file.now c.args.number c.args.out.now c.in_ok-scan.ensures c.in-Some.is
    (rw c.pixels.ensures at c.in_ok-check_out.ensures) c.write_greys.ensures in
    record { value = both.0; out_after = both.1 }

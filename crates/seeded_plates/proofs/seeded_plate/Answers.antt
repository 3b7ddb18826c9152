-- `seeded_plates::seeded_plate` meets its contract: 2, 5, or the plate.
use Rattle.std.proofs.Common.{sym, arith}
use Rattle.theory_connectivity.proofs.Sizes.{grid_sizes}
use Rattle.seeded_plates.proofs.Outcomes.{beyond_grid, generated-whole, too_short}
use Rattle.seeded_plates.proofs.seeded_plate.Goals as goal

pub returns-then-not-grid_fits : goal.returns-then-not-grid_fits
returns-then-not-grid_fits c =
    let a = c.args in
    let both = beyond_grid a.seed a.width a.height a.out.now (sym c.if-not-grid_fits.ensures) in
    record { value = both.0; out_after = both.1 }

pub overflow_mul-pixels : goal.overflow_mul-pixels
overflow_mul-pixels c = omega (arith, (grid_sizes c.args.width c.args.height (sym c.if-not-grid_fits.ensures)).few_pixels)

pub returns-in_err-check_out : goal.returns-in_err-check_out
returns-in_err-check_out c =
    let a = c.args in
    let both = too_short a.seed a.width a.height a.out.now (sym c.if-not-grid_fits.ensures) _ _ c.from_residual.ensures.1 c.in_err-check_out.ensures in
    record { value = both.0; out_after = both.1 }

pub returns : goal.returns
returns c =
    let a = c.args in
    let both = generated-whole a.seed a.width a.height a.out.now (sym c.if-not-grid_fits.ensures) c.in_ok-check_out.ensures c.write_greys.ensures in
    record { value = both.0; out_after = both.1 }

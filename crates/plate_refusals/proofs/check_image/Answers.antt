-- `plate_refusals::check_image` meets its contract: the pixels of a grid fit.
use Rattle.std.proofs.Common.{arith}
use mathlib.Core.Path.{sym}
use Rattle.theory_connectivity.proofs.Sizes.{grid_sizes}
use Rattle.plate_refusals.proofs.check_image.Goals as goal

pub overflow_mul-width : goal.overflow_mul-width
overflow_mul-width c = omega (arith, (grid_sizes c.args.width c.args.height (sym c.if-not-grid_fits.ensures)).few_pixels)

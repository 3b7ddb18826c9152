-- `plate_refusals::grid_fits` meets its contract: the product of a width and a height that fit does not overflow.
use mathlib.Core.Path.{sym, ◌∙◌}
use native.Mathlib.Omega.{arith}
use Rattle.meaning.specs.Plate.{grid_fits}
use Rattle.theory_connectivity.proofs.Sizes.{product, extent_is}
use Rattle.plate_refusals.proofs.grid_fits.Goals as goal

pub overflow_mul-result : goal.overflow_mul-result
overflow_mul-result c =
    let s = c.args in
    omega (
      arith,
      product s.width s.height
          (extent_is s.width (sym c.extent_fits.ensures ∙ c.if-extent_fits.true))
          (extent_is s.height (sym c.extent_fits-then-extent_fits.ensures ∙ c.if-extent_fits-2.true)),
    )

pub returns-then-extent_fits-2 : goal.returns-then-extent_fits-2
unfolding grid_fits
returns-then-extent_fits-2 c =
    rw (
      sym c.extent_fits.ensures ∙ c.if-extent_fits.true,
      sym c.extent_fits-then-extent_fits.ensures ∙ c.if-extent_fits-2.true,
    )

pub returns-else-extent_fits-2 : goal.returns-else-extent_fits-2
unfolding grid_fits
returns-else-extent_fits-2 c = rw (c.if-extent_fits-2.false, sym c.if-extent_fits.ensures, sym c.if-extent_fits-2.ensures)

pub returns-else-extent_fits : goal.returns-else-extent_fits
unfolding grid_fits
returns-else-extent_fits c = rw (c.if-extent_fits.false, sym c.if-extent_fits.ensures)

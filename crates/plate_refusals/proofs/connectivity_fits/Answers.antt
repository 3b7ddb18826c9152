-- `plate_refusals::connectivity_fits` meets its contract.
use borrow.Author.Tests.{eq-eqb, ne_eqb}
use Rattle.meaning.specs.Plate.{connectivity_fits}
use Rattle.plate_refusals.proofs.connectivity_fits.Goals as goal

pub returns-then-connectivity-eq4 : goal.returns-then-connectivity-eq4
unfolding connectivity_fits
returns-then-connectivity-eq4 c = rw (eq-eqb c.args.connectivity 4 c.if-connectivity-eq4.true)

pub returns-then-connectivity-eq6 : goal.returns-then-connectivity-eq6
unfolding connectivity_fits
returns-then-connectivity-eq6 c =
    let k = c.args.connectivity in
    rw (ne_eqb k 4 c.if-connectivity-eq4.false, eq-eqb k 6 c.if-connectivity-eq6.true)

pub returns-else-connectivity-eq6 : goal.returns-else-connectivity-eq6
unfolding connectivity_fits
returns-else-connectivity-eq6 c =
    let k = c.args.connectivity in
    rw (ne_eqb k 4 c.if-connectivity-eq4.false, ne_eqb k 6 c.if-connectivity-eq6.false)

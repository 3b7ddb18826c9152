-- `plate_refusals::greatest_fits` meets its contract.
use borrow.Author.Tests.{le-leb, lt-leb}
use Rattle.meaning.specs.Plate.{greatest_fits}
use Rattle.plate_refusals.proofs.greatest_fits.Goals as goal

pub returns-then-greatest-ge1 : goal.returns-then-greatest-ge1
unfolding greatest_fits
returns-then-greatest-ge1 c = rw (le-leb 1 c.args.greatest c.if-greatest-ge1.true)

pub returns-else-greatest-ge1 : goal.returns-else-greatest-ge1
unfolding greatest_fits
returns-else-greatest-ge1 c = rw (lt-leb 1 c.args.greatest c.if-greatest-ge1.false)

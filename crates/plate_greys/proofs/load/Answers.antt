-- `plate_greys::load` meets its contract. The invariant: the first p greys are copied in.
use Rattle.plate_greys.proofs.Sides.{loading_done}
use Rattle.plate_greys.proofs.load.Goals as goal

pub returns : goal.returns
returns c = loading_done c.loop-p.invariant c.loop-p-test.false c.requires.greys

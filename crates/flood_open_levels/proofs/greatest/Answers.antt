-- `flood_open_levels::greatest` meets its contract.
use Rattle.flood_open_levels.proofs.Bits.{highest}
use Rattle.flood_open_levels.proofs.greatest.Goals as goal

pub returns : goal.returns
returns c = highest _ _ _ c.ilog2.ensures.power_le c.ilog2.ensures.next_power_gt c.ilog2.ensures.bound

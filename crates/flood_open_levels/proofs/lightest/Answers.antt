-- `flood_open_levels::lightest` meets its contract.
use Rattle.flood_open_levels.proofs.Layered.{word_named, lightest_up_to}
use Rattle.flood_open_levels.proofs.lightest.Goals as goal

pub greatest-requires : goal.greatest-requires
greatest-requires c = word_named c.requires.0 c.requires.1.0 c.greatest-a.ensures

pub returns : goal.returns
returns c = lightest_up_to c.requires.0 c.requires.1.0 c.greatest-a.ensures c.greatest.ensures

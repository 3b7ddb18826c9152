-- `maxtree::build_tree` meets its contract: one stage after the other.
use Rattle.maxtree.proofs.Stages.{built, in_range, leveled_ready, numberable}
use Rattle.maxtree.proofs.build_tree.Goals as goal

pub rank_levels-levels-requires-clause-greatest_bound : goal.rank_levels-levels-requires-clause-greatest_bound
rank_levels-levels-requires-clause-greatest_bound c = in_range c.requires

pub number-count-requires-clause-floodable : goal.number-count-requires-clause-floodable
number-count-requires-clause-floodable c = numberable c.requires c.rank_levels-levels.ensures c.flood.ensures

pub set_levels-requires : goal.set_levels-requires
set_levels-requires c =
    leveled_ready c.requires c.rank_levels-levels.ensures c.flood.ensures c.number-count.ensures
    c.restore_greys.ensures

pub returns : goal.returns
returns c =
    built c.requires c.rank_levels-levels.ensures c.flood.ensures c.number-count.ensures
    c.restore_greys.ensures c.set_levels.ensures

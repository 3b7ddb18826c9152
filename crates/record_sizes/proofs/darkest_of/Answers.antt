-- `record_sizes::darkest_of` meets its contract.
-- Assumes nothing.
use Rattle.std.proofs.Common.{◌∙◌}
use Rattle.maxtree_columns.proofs.Tree.{root-darkest}
use Rattle.record_sizes.proofs.darkest_of.Goals as goal

pub returns : goal.returns
returns c = c.get.ensures.0 ∙ root-darkest c.requires

-- `plate_tree::plate_tree` meets its contract.
use Rattle.plate_tree.proofs.Building.{tree_stands}
use Rattle.plate_tree.proofs.plate_tree.Goals as goal

pub returns-clause-tree : goal.returns-clause-tree
returns-clause-tree c = tree_stands c.requires c.load.ensures c.build_tree-count.ensures

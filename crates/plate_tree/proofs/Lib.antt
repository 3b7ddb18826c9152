-- From a plate to its tree, and the node list that starts from it.
pub mod Building
pub mod Starting

-- The tree of a plate, and what a node list answers.
pub mod PlateTree
pub mod Listing

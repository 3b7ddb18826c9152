-- The size list from the columns of the tree.
pub mod Sizes

-- The steps to a neighbour.
pub mod Steps

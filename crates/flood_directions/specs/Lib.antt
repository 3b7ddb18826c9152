-- Directions on the grid.
pub mod Directions

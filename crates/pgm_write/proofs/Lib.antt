-- The laws behind writing a plate file, and its examples.
pub mod Rasters
pub mod Outcomes
pub mod Examples

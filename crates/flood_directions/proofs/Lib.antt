-- Laws of directions.
pub mod Neighbours

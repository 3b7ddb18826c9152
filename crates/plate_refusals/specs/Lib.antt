-- The sides of cleaning.
pub mod Sides

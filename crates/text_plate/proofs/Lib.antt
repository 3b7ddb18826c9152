-- The laws of the text of a plate.
pub mod Plates

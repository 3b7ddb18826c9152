-- The proof of the claim on plate files, and examples of the written form.
pub mod Numerals
pub mod Headers
pub mod Rasters
pub mod PlateFiles
pub mod Examples

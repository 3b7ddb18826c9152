-- The laws behind reading a plate file, and its examples.
pub mod Raster
pub mod Readable
pub mod Writing
pub mod Reading
pub mod Examples

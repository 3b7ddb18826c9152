-- What the functions of this crate ensure.
pub mod Bitmap
pub mod Ranks

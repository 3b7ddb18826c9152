-- Laws of the ranks and of the bitmap.
pub mod Digits
pub mod Bitmap
pub mod Ranks

-- What the program sizelist prints, and what the functions that make the text leave in it.
pub mod Text
pub mod Pieces

-- What the program sizelist prints, and what the functions that make the text are given and leave.
pub mod Text
pub mod Pieces
pub mod Rolls

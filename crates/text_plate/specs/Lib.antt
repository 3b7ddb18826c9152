-- What the program sizelist prints for a plate, and what the function that makes this text is given.
pub mod Text
pub mod Pieces

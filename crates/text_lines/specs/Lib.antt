-- Lines of text: numbers in decimal, fields parted by one space, LF at the end; and a text that is being put together.
pub mod Lines
pub mod Pieces

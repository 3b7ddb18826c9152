-- Laws of decimal numbers and of text put piece by piece.
pub mod Decimals
pub mod Pieces
pub mod Texts
pub mod Examples

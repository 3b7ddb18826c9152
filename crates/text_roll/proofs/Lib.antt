-- The laws of the text of a roll, the proof of the claim, and the definition computed on files.
pub mod Texts
pub mod Rolls
pub mod Examples

-- Test plates from a seed: the plate, and the claim on it and its file.
pub mod Sequence
pub mod SeededPlates

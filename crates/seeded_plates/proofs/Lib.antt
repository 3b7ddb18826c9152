-- The laws behind test plates, the proof of the claim, and examples.
pub mod Sequence
pub mod Generating
pub mod Outcomes
pub mod SeededPlates
pub mod Examples

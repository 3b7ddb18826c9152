-- The two forms of one record as bytes, and what converting leaves.
pub mod Forms
pub mod Outcomes

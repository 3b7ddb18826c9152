-- The laws behind the header steps.
pub mod Front
pub mod Skipping
pub mod Places
pub mod Digits
pub mod Parsing
pub mod Faults
pub mod Exact
pub mod Prefix

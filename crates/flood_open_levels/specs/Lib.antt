-- The set of open levels in a slice: definitions, and what the private functions ask and ensure.
pub mod Levels
pub mod Words

-- What is held against the limit, by node.
pub mod Attributes

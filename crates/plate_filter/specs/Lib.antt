-- What the operations of this crate answer.
pub mod Operations

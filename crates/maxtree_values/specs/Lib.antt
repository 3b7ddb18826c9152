-- Values by node.
pub mod Values

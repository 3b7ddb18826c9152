-- Laws of values by node.
pub mod Values
pub mod Cuts
pub mod Leaves

-- Laws of reading the fields one after another; what is accepted is a plate; examples.
pub mod Fields
pub mod Nodes
pub mod Greys
pub mod Tree
pub mod Record
pub mod Sound
pub mod Examples

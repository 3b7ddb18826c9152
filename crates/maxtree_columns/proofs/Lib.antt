-- Laws of the component tree in the work space.
pub mod Greys
pub mod Tree
pub mod Leaves

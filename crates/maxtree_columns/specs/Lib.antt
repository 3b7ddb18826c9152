-- The component tree of a plate in the work space.
pub mod Tree

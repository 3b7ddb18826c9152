-- From what parsing finds to the tree in the work space.
pub mod Finding

-- Fields in the columns of the work space.
pub mod Fields

-- Laws of the fields in the columns of the work space.
pub mod Fields
pub mod Standing
pub mod Bytes
pub mod Loops

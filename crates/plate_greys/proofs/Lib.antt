-- Laws of a plate, or its negative, in the work space.
pub mod Sides

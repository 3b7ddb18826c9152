-- A plate, or its negative, in the work space.
pub mod Sides
pub mod Loading

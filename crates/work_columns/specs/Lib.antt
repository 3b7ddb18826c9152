-- The work space: eight columns of n numbers in one lent slice.
pub mod Columns
pub mod Layout

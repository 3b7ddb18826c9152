-- Laws of columns.
pub mod Columns
pub mod Filled

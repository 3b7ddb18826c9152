-- The laws of the refusals' numbers.
pub mod Numbers

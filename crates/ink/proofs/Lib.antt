-- The law of rounding over any divisor, and the ink percentage by it.
pub mod Rounding

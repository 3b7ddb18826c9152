-- What the contract of this crate cites. The rule itself, `ink_of` and `Nearest`, is in the crate `meaning`.
pub mod Percentage

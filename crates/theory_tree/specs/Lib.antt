-- What the laws of this crate speak of beside the definitions of `meaning`.
pub mod Tree
pub mod Order

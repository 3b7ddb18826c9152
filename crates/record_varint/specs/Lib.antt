-- What the contracts of this crate cite. The form itself, `varint`, is in the crate `meaning`.
pub mod Field

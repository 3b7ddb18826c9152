-- The theorems about plates, as statements.
pub mod Theorems

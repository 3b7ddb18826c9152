-- The theorems about plates.
pub mod Plates
pub mod Dual
pub mod Theorems

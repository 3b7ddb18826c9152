-- A roll of plates in the words of docs/SPECIFICATION.md: its definition, what the operations answer, the claim, and examples.
pub mod Roll
pub mod Scan
pub mod Rolls
pub mod Examples

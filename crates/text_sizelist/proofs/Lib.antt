-- The definition computed on files, and the laws of its pieces.
pub mod Files
pub mod Examples

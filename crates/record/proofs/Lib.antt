-- What the operations on records leave, on each way out.
pub mod Standing
pub mod Wrote

-- What the operations on records answer, and what they leave in their buffers.
pub mod Answers
pub mod Standing
pub mod Writing
pub mod Reading

-- The plate file of a plate, and what writing it answers, in the words of docs/SPECIFICATION.md.
pub mod Writing

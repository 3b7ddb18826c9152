-- The definitions that the contracts cite, in the words of docs/SPECIFICATION.md; README lists what each file says. They compute, so that the
-- checker evaluates the specification's examples, and they are naive on purpose.
pub mod Sets
pub mod Paths
pub mod Component
pub mod Plate
pub mod Opening
pub mod Maxima
pub mod Nodes
pub mod Cut
pub mod Record
pub mod Ink
pub mod Answers
pub mod Examples

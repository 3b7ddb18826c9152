-- The laws of a field. For the crates above: Groups (sizes and bytes of a form), Starts, Form (what a form spells), Reading (reading what was
-- written, and what was accepted), Encode (several fields), Loops (measuring, writing and comparing them). Position, Writing and Comparing are for
-- the functions of this crate; Examples computes the definition.
pub mod Groups
pub mod Starts
pub mod Form
pub mod Reading
pub mod Position
pub mod Writing
pub mod Comparing
pub mod Encode
pub mod Loops
pub mod Examples

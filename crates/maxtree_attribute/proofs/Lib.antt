-- Laws of the column ATTRIBUTE: the trim edge as four lines, marks, and the attributes at the end.
pub mod Edge
pub mod Marks
pub mod Raising

-- The invariant of flooding is kept by each step, and the functions take those steps.
pub mod Counting
pub mod Pushing
pub mod Closing
pub mod Ending
pub mod Stacking
pub mod Measure
pub mod Tips
pub mod Steps
pub mod Pixels
pub mod Effects
pub mod Pushes
pub mod Looks
pub mod Closes
pub mod Prepares

-- Flooding: the invariant of the machine, and what its functions ask and leave.
pub mod Machine
pub mod Functions

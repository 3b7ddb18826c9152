-- What converting a record answers, and what it leaves in its buffers.
pub mod Converting

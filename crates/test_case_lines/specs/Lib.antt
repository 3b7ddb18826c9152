-- Places in a line of a case.
pub mod Places

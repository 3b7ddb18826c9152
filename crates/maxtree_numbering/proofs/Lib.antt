-- Laws of numbering.
pub mod Places
pub mod Marks
pub mod Flooding
pub mod Passes
pub mod Stages

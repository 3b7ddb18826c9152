-- One stage after the other.
pub mod Stages

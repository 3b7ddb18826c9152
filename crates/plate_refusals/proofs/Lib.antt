-- What the conditions on a plate's sizes say.
pub mod Refusals

-- What the contracts of this crate cite.
pub mod Parse
pub mod Steps

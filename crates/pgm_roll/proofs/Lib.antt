-- The laws behind rolls, the proof of the claim, and examples.
pub mod Plates
pub mod Rolls
pub mod Places
pub mod Scanning
pub mod Reading
pub mod Alone
pub mod Faulty
pub mod Claim
pub mod Examples

-- One record for each plate and connectivity, and the reader accepts exactly those.
pub mod There
pub mod Exactly

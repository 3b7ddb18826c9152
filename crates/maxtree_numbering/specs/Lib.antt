-- What the passes of numbering do.
pub mod Numbering

-- Plate files, written and read: the written form, and the claim.
pub mod PlateFiles

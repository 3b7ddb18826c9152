-- Laws of the size list from the columns.
pub mod Tally
pub mod Listing
pub mod Holding

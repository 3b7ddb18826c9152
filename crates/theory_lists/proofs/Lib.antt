-- Laws of tests, sets, lists and sums; about no plate.
pub mod Tests
pub mod Sets
pub mod Lists
pub mod Sums
pub mod Written

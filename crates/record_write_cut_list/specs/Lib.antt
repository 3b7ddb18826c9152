-- What `write_cut_list` answers and leaves: demand 3 at one limit, as the contract of a function.
pub mod Answers
pub mod WriteCutList

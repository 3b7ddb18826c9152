-- What `write_cut_list` leaves, on each way out.
pub mod Conditions
pub mod Outcomes

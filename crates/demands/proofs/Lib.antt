-- Demands 2 and 3, several cleanings, and the conversion of records.
pub mod Claims
pub mod Demand3
pub mod Records
pub mod Conversions
pub mod Demand2
pub mod Cleanings

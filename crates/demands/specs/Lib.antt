-- Demands 2 and 3, several cleanings, and the conversion of records, as statements.
pub mod Claims
pub mod Demand2
pub mod Cleanings
pub mod Demand3
pub mod Records
pub mod Conversions

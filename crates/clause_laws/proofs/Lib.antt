-- One record: what packing writes of it, and what is asked of it.
pub mod Written
pub mod Asked
-- Lists of records.
pub mod Rows
pub mod Lists
-- The theorem.
pub mod Same

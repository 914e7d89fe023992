-- The rows that are made of records.
pub mod Bounds
pub mod Links
pub mod Numbers
pub mod Rows

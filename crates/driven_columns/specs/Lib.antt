-- The columns that words drive, as a loop gathers them.
pub mod Columns

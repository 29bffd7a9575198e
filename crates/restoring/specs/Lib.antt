-- The restored table as a table read through a matrix.
pub mod Through

-- The rows of sigma, read by place: `Rows` has a row's first line, and all rows one after the other.
pub mod Rows

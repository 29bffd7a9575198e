-- R of a table, one point at a time.
pub mod Points

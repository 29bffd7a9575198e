-- A list of rows in three flat slices, and rows added to it.
pub mod Held

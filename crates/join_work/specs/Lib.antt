-- Joining in three flat slices: entries that close up, the row that is found, one join and all joins, and what is stored at the end.
pub mod Closing
pub mod Found
pub mod All
pub mod Stored

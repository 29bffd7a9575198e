-- The work of the table method, as its parts have it.
pub mod Work

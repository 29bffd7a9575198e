-- The reader's promise, from flat slices to arrays.
pub mod Reading

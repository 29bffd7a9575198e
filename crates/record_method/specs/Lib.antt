-- The row method's promise, from flat slices to arrays.
pub mod Method

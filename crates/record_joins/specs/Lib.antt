-- The promise of joining, from flat slices to arrays.
pub mod Joined

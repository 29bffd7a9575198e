-- The promise of disjoining, from flat slices to arrays.
pub mod Disjoined

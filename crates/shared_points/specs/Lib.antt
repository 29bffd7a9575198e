-- The first pair of rows that share a point, as the search finds it.
pub mod Pairs

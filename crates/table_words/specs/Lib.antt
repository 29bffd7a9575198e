-- Blocks of a table held to blocks of its copy.
pub mod Matching

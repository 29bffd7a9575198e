-- The verdicts on lists, step by step, and what an answer of 0 says where the rows lie in three flat slices.
pub mod Steps
pub mod Checked

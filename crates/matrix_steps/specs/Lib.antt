-- A step of the matrix reached.
pub mod Steps

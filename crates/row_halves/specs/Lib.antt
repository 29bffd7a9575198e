-- What becomes of a row at a step.
pub mod Halves

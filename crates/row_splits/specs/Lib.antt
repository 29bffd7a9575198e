-- What becomes of a list of rows at a step.
pub mod Split

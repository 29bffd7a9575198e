-- The room for the rows of a case.
pub mod Room

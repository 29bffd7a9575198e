-- The word at a point by the places of the rows.
pub mod Points

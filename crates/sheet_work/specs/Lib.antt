-- The sheet: `Work` has what its work comes to, `Made` how that follows from the row method and from the text that is put.
pub mod Work
pub mod Made

-- Writing a model: `Made` has how it follows from the row method and from the text that is put.
pub mod Made

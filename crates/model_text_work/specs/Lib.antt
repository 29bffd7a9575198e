-- The model of a text: `Work` has what its work comes to, `Reader` how that follows from the reader's answer.
pub mod Work
pub mod Reader

-- The joined rows of a text: `Work` has what its work comes to, `Rows` that the joined rows lie at the front of storage and are written, `Reader`
-- how the whole follows from the reader's answer.
pub mod Work
pub mod Rows
pub mod Reader

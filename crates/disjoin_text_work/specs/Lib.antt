-- The disjoint list of a text: `Work` has what its work comes to, `Rows` that the disjoint rows lie at the front of storage, are written and are
-- never refused there, `Reader` how the whole follows from the reader's answer.
pub mod Work
pub mod Rows
pub mod Reader

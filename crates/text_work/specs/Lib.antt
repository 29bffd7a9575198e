-- The work of a text: `Work` has what it comes to, `Front` rows at the front of storage and their writing, `Reader` how the work follows from the
-- reader's answer.
pub mod Work
pub mod Front
pub mod Reader

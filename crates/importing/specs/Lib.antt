-- One list of a bulk import: `Import` has the answer and the line, `Made` how they come of the work of its text.
pub mod Import
pub mod Made

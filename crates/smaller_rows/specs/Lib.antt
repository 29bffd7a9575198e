-- What the work of the row method leaves, and how it follows from what its parts leave.
pub mod Work

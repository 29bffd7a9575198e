-- Laws of verdicts, the same for every operation; and of the columns that a list's words drive.
pub mod Verdicts
pub mod Driven

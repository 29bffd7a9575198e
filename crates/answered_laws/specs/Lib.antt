-- What an answer of 0 says of a list of rows.
pub mod Passed

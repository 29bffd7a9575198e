-- What copying records out into arrays and in again promises, the list of rows that the arrays are, and the rows that are stored in them.
pub mod Copied
pub mod Flat
pub mod Yielded

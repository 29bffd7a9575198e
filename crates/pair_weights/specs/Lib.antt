-- The cube of two rows, by their places.
pub mod Places

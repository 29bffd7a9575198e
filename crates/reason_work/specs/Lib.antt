-- The reason, told by what was found: the taken numbers and sigma, at the front of what was lent.
pub mod Told

-- What pairs of rows say of a list: R, and whether two rows share a point.
pub mod Cube
pub mod Closed
pub mod Theorem
pub mod Symmetric
pub mod Share

-- An array whose entries are raised by a weight as often as a number comes out, and the list of what is flipped.
pub mod Raised
pub mod Front
pub mod Cubes

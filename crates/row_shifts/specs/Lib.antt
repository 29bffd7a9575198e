-- R by cubes: `Stored` has cubes that lie in three lent lists, `Due` the entries that take R from them.
pub mod Stored
pub mod Due

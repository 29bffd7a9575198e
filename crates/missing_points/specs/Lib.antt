-- `Rows`: the rows of a list as a loop meets them; `Looped`: the cubes of their pairs, as two loops do.
pub mod Rows
pub mod Looped

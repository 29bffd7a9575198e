-- The light numbers of a cube, as loops over its free inputs come to them, and how many light numbers there are.
pub mod Ways
pub mod Counted
pub mod Numbers
pub mod Free
pub mod Light

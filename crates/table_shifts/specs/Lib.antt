-- R of a table by blocks of points (`Blocks`), stored at the numbers of few one-bits (`Light`).
pub mod Blocks
pub mod Light

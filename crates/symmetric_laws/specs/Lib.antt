-- Symmetric blocks and Gray decoding. `Columns`: the Gray matrix and its inverse; `Weights`: sums over pairs of points x and x XOR t by the
-- number of one-bits of t; `Blocks`: R of a symmetric block, both measures, and that the second is not below the first; `Slices`: numbers with two
-- inputs exchanged; `Words`: a symmetric table and the words that it is made of.
pub mod Columns
pub mod Weights
pub mod Blocks
pub mod Slices
pub mod Words

-- Candidates one at a time: their weight, and whether a number is no XOR of those chosen.
pub mod Light
pub mod Stride
pub mod Fresh

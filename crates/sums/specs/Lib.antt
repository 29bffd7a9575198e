-- Sums and counts over 0 .. m - 1: `Sums` has the definitions, `Laws` the laws.
pub mod Sums
pub mod Laws

-- The signed Walsh transform. `Walsh`: the definitions; `Theorems`: orthogonality, the inverse, Wiener-Khinchin and Parseval;
-- `Bounds`: of a function with values 0 and 1, that each number fits and each division leaves nothing over; `Differences`: signed numbers as
-- differences of natural ones; `Signs`: where the sign is + and where -; `Sums`: sums with signs, as differences of two sums; `Stages`: the
-- stages of butterflies; `Passes`: what butterflies do to a list; `Machine`: signed numbers of 32 bits.
pub mod Differences
pub mod Signs
pub mod Walsh
pub mod Sums
pub mod Stages
pub mod Theorems
pub mod Bounds
pub mod Machine
pub mod Passes

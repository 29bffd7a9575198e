-- Laws of matrices over GF(2) (01, The basis and the matrix): linear maps first, then the steps, the matrix they reach, the
-- candidates that are left, how many numbers can be independent, the numbers taken under any order, the inverse, the smaller block, and
-- the values listed.
pub mod Linear
pub mod Steps
pub mod Reached
pub mod Reach
pub mod Candidate
pub mod Dimension
pub mod Ordered
pub mod Inverse
pub mod Smaller
pub mod Images

-- What the inner functions' contracts name, and the laws that their proofs cite.
pub mod Words
pub mod Laws

-- A list of rows in three flat slices: `Listing` has what its checks' contracts and proofs cite.
pub mod Listing

-- The pieces of a model, put where they fit: `Fitting` has the contract and the law that joins two pieces.
pub mod Fitting

-- The rows of sigma, read by place: `Chains` has the covers of one row.
pub mod Chains

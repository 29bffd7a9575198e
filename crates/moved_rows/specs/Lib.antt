-- A list of rows laid at the front of three slices.
pub mod Put

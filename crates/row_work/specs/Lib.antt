-- The row method for any arguments: `Method` has what comes back and what is left, in the verdict's own terms; `Left` what lies in working
-- storage after an answer of 0.
pub mod Method
pub mod Left

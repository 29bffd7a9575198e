-- Numbers by place: `Digits` has what the loop over their digits keeps, and where it ends.
pub mod Digits

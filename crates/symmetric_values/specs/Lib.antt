-- R at the numbers of one and of two one-bits, folded, and the measures that come of it.
pub mod Values

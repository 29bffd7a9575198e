-- 01's blocks to try by hand, with blocks of 02's types: the proved set, the sheet example byte for byte, and the type line by examples.
pub mod Cases
pub mod Example
pub mod TypeLines

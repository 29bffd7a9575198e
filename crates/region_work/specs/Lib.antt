-- Rows put at the end of a list that holds only so many, what the rows that meet a region say of it, what a region gives by that, the disjoint
-- list in three lent slices, and the answer.
pub mod Put
pub mod Meet
pub mod Halved
pub mod Whole
pub mod Answered

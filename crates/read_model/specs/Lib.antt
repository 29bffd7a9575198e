-- A model, read by place: `Whole` has its heading, and the whole of it.
pub mod Whole

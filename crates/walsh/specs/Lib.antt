-- What the inner functions' contracts name.
pub mod Numbers

-- How rows are transformed: an exchange, a shear, the rows over a point, a step, any number of steps, the smaller rows; the columns that they drive.
pub mod Exchange
pub mod Shear
pub mod Hits
pub mod Step
pub mod Moved
pub mod Smaller
pub mod Driven

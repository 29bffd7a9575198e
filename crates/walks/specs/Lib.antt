-- The walk over the numbers that can be candidates, how long it is, and that it ascends; that the printed list is the walk; and places with
-- smaller values.
pub mod Walk
pub mod Few
pub mod Ascending
pub mod Printed
pub mod Next

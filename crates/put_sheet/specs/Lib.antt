-- The lines of a sheet: `Lines` has its parts, as the code puts them, and `Length` how long they are.
pub mod Lines
pub mod Length

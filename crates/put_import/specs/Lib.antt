-- The lines of a bulk import: `Line` has every byte, `Length` how many there are, `Copy` a law of putting a name.
pub mod Line
pub mod Length
pub mod Copy

-- What cubes add at the light numbers, in an array by number.
pub mod Adding

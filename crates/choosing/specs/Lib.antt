-- A step of the choice, as the code has it, the search over the walk, and what is chosen by R of a block.
pub mod Steps
pub mod Search
pub mod Found

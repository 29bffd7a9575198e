-- What the checks that every operation but reading begins with say where they pass, and what holds of the word of a missing point.
pub mod Sizes

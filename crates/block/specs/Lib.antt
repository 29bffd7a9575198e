-- The meaning of 01, one file for each of its sections, in their order, of models in BLIF (02, Ticket 4): `Covers`, `Model`, `ModelRead`,
-- of symmetric blocks (02, Ticket 6): `Symmetric`, of why a number was not taken (02, Ticket 7): `Reasons`, of rows that are joined
-- (02, Ticket 9): `Joins`, and of lists that overlap on purpose (02, Ticket 10): `Overlaps`. Laws about it stand in other crates.
pub mod Limits
pub mod Words
pub mod Measure
pub mod Basis
pub mod Rows
pub mod Refusals
pub mod Tables
pub mod Lists
pub mod Text
pub mod Sheet
pub mod Said
pub mod Covers
pub mod Model
pub mod ModelRead
pub mod Symmetric
pub mod Reasons
pub mod Joins
pub mod Overlaps

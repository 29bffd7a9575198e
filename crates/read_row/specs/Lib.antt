-- What symbols spell, counted without a case for each.
pub mod Told

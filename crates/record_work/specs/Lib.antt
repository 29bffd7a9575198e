-- No operation looks further than the records that are copied out.
pub mod Cut

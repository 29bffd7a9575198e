-- Row text as it is written: `Parts` has it as the code puts it, `Length` how long it is, `Checks` what its checks say together.
pub mod Parts
pub mod Length
pub mod Checks

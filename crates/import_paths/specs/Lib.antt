-- The names beside a list's file: `Path` has every byte, `Room` how many there may be, `Ended` that it ends within its room, `Made`
-- what a name that is put comes to.
pub mod Path
pub mod Room
pub mod Ended
pub mod Made

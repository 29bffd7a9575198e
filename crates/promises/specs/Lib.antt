-- What each public operation promises (01, How each promise is judged): its answer, and what everything lent holds at the end, given what
-- it held, for all inputs, refusals among them. One record an operation; the contracts cite it, of rows in three flat slices as of rows
-- lent as records, and crate once shows that it leaves one outcome. Storage that held s₀ holds s₁ at the end; what is lent only to be
-- read cannot change. `Lent`: lent room for rows. `Tables`, `Lists`, `Texts` and `Sheets`: the operations on tables, on lists and on row
-- text, and the sheet with what the program prints; `Models`: models in BLIF; `Symmetric`: symmetric blocks; `Reasons`: why a number was not
-- taken; `Joins`: joining; `Overlaps`: disjoining. Not here: the meaning, which is block's, and laws.
pub mod Lent
pub mod Tables
pub mod Lists
pub mod Texts
pub mod Sheets
pub mod Models
pub mod Symmetric
pub mod Reasons
pub mod Joins
pub mod Overlaps

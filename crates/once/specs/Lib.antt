-- No second answer fits (01, How each promise is judged): two outcomes that meet a promise for the same input are equal, in the answer and
-- in what each lent slice holds at the end. The promises are the records of crate promises, and importing's, which the contracts cite, of
-- rows in three flat slices, in Rattle and in `exports`, as of rows lent as records. `Law`: the law, and what it says of lent room for
-- rows. `Tables`, `Symmetric`, `Lists`, `Reasons`, `Joins`, `Overlaps`, `Texts`, `Sheets` and `Models`: the operations.
pub mod Law
pub mod Tables
pub mod Symmetric
pub mod Lists
pub mod Reasons
pub mod Joins
pub mod Overlaps
pub mod Texts
pub mod Sheets
pub mod Models

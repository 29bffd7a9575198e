-- "Given exactly when" (01, Numbers that come back). `General`: a list of reasons, and when an answer is given by it. `Conditions` and
-- `Forms`: 01's conditions in its words, and that the checks decide them. `Tables`, `Symmetric`, `Lists`, `Why`, `Joins`, `Overlaps`, `Texts` and
-- `Models`: each operation's reasons, line by line as 01's table has them, and the theorem.
pub mod General
pub mod Conditions
pub mod Forms
pub mod Tables
pub mod Symmetric
pub mod Lists
pub mod Why
pub mod Joins
pub mod Overlaps
pub mod Texts
pub mod Models

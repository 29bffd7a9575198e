-- The text reader by places and by lines: `ByPlace` has what its functions give; `Tests` what tests say together; `Spelled` what bytes
-- spell; `Front` the laws of lines; `Numerals` that numbers are written as their form has them; `Numbers`, `HeadLines`, `RowLines` and
-- `Whole` that the two agree on a number, a heading, a row and the body; `TypeLines` that they agree on the type line, and where the
-- headings stand; `Answers` that they agree on the answer and the lent lists.
pub mod ByPlace
pub mod Tests
pub mod Spelled
pub mod Front
pub mod Numerals
pub mod Numbers
pub mod HeadLines
pub mod TypeLines
pub mod RowLines
pub mod Whole
pub mod Answers

-- Row text: `Rows` has a row's line, written and read; `Written` the lines of a written text, and the text that lines make up; `Accepted`
-- and `Again` when a text is accepted, and both round trips; `Due` what is due on the lines of the headings; `Refused` when line A is
-- refused; `Prefix` that 8,192 bytes decide; `Unique` that the reader's answer is known from its numbers.
pub mod Rows
pub mod Written
pub mod Accepted
pub mod Again
pub mod Due
pub mod Refused
pub mod Prefix
pub mod Unique

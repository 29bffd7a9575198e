-- Laws of models in BLIF (02, Ticket 4). Covers and their values: `Lines` has the lines of covers, one after the other; `Inputs` the inputs
-- of a row of sigma; `Names` that names are different; `Powers` the powers of two of the outputs; `Values` what the rows of sigma compute;
-- `Patterns` the lines of patterns; `Outputs` what a model's covers compute. Bytes: `Spaced` has names after spaces, one more at a time;
-- `WordLines` the words on a line and the lines of a text; `Plain` that lines say their covers; `Texts` the word of a model's text, and
-- both ways between texts and models. The subset that is read: `Accepted` has that only what is written is read; `Written` that what is
-- written is read; `Endings` that lines which are not bad can end well; `Dealt` the word of a model that was read.
pub mod Lines
pub mod Inputs
pub mod Names
pub mod Powers
pub mod Values
pub mod Patterns
pub mod Outputs
pub mod Spaced
pub mod WordLines
pub mod Plain
pub mod Accepted
pub mod Written
pub mod Texts
pub mod Endings
pub mod Dealt

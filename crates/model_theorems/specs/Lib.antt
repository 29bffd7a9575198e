-- Theorems on models in BLIF (02, Ticket 4), over the definitions that the promises cite. `Block`: the written model computes the block.
-- `Reads`: reading and writing undo each other, and what was read is evaluated as the text is. `Refused`: the line of a refusal 10 is the
-- first that leaves the texts that are read. `Room`: how long a model is, so that the program never lacks room. `Driven`: each output of a
-- written model has a pattern (02, Ticket 8).
pub mod Block
pub mod Reads
pub mod Refused
pub mod Room
pub mod Driven

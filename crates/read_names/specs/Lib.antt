-- Reading a model by place: `Met` has bytes and names that are compared where they stand; `Fate` what becomes of a text from a place on,
-- where a state is due there; `Attempts` which of several lines that may stand at a place decides.
pub mod Met
pub mod Fate
pub mod Attempts

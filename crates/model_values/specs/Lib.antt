-- `Checks`: the checks of evaluating a model, as their functions reach them. `Driven`: the word by the patterns that drive each output.
-- `Dealt`: it is the word that the model's text gives.
pub mod Checks
pub mod Driven
pub mod Dealt

-- `Value`: the answer of evaluating a model that was read, by its three ways.
pub mod Value

-- The covers of the outputs as the code puts them: `Patterns` has the symbols and the lines of one output, `Outputs` the outputs.
pub mod Patterns
pub mod Outputs

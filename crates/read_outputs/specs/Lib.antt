-- The outputs of a model, read by place: `Cubes` has a pattern's line, `Outputs` the covers one after the other and the last line.
pub mod Cubes
pub mod Outputs

-- The reader of models: `Reading` has its answer, and what it stores.
pub mod Reading

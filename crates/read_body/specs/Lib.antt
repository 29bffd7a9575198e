-- The lines after the headings: `Kept` has what a refusal leaves.
pub mod Kept

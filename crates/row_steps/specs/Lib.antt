-- The step at which a list passes the most rows of a smaller block, and the replay of the steps.
pub mod Passed

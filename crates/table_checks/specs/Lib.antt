-- The search for a malformed number, the checks of restoring in the order of the code, the verdicts step by step, and what verdicts of 0
-- say.
pub mod Search
pub mod Restoring
pub mod Steps
pub mod Passed

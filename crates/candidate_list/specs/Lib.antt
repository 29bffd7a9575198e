-- The printed list of candidates: the rule that it follows, and the test by which the check finds that it does.
pub mod Printed
pub mod Rule

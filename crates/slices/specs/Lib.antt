-- Lists by place. `Places` has the definitions; `Least` and `Filled` the laws; `Laid` a list that a loop lays out; `Tests` what a test of two
-- says.
pub mod Places
pub mod Least
pub mod Filled
pub mod Tests
pub mod Laid

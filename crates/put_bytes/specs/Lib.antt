-- Text put into a lent list: `Puts` has the contract and the law that joins two puts; `Digits` the laws of bits, symbols and
-- decimal digits, by which they are put from the right; `Length` how long the lines of rows are.
pub mod Puts
pub mod Digits
pub mod Length

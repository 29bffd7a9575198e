-- The covers of sigma as the code puts them: `Texts` has the bytes of covers, `Links` what one input brings to a row's chain, `Rows` a row
-- and all rows.
pub mod Texts
pub mod Links
pub mod Rows

-- The work of reading row text: `Cursor` says where the cursor stands.
pub mod Cursor

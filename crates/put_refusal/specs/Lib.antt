-- What is printed beside sheets: `Words` has a word and three numbers, `Length` how long they are.
pub mod Words
pub mod Length

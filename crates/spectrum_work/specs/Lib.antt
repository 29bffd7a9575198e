-- `Word`: the work on one word, list by list. `Words`: R as a sum over the words. `Theorem`: R of any block by the spectra of its words.
-- `Cases`: a case of 01 by computation.
pub mod Word
pub mod Words
pub mod Theorem
pub mod Cases

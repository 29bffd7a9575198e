-- From arrays to records: what is promised of the arrays is promised of the records.
pub mod Records

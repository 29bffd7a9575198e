-- What holds of lists whose rows are joined (02, Ticket 9): of two rows; of totals over rows; of one join and of all; of the next pair;
-- of what lies in the list's place at the end.
pub mod Two
pub mod Totals
pub mod Joined
pub mod Next
pub mod Room

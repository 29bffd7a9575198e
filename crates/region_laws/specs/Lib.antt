-- What holds of lists that overlap on purpose (02, Ticket 10): of an OR over a range; of the undecided inputs of a region, by masks; of its free
-- inputs; of the rows that come out; of the regions that are visited.
pub mod Ors
pub mod Open
pub mod Free
pub mod Pieces
pub mod Disjoined
pub mod Visited

-- The demands as theorems. `Basis`: the rule and that it leaves one answer. `Orders`: what the order among equals costs. `Matrix`: T and
-- its inverse. `Blocks`: the smaller block and its measure. `Restoring`: the way back for tables. `Lists`: demand 3, and the way back for
-- lists. `Symmetric`: symmetric blocks by Gray decoding. `Reasons`: why a number was not taken. `Joins`: joining. `Overlaps`: disjoining, which
-- gives a list of type fd. The first four are of any block; the others but the last are for each type, the same on both sides.
pub mod Basis
pub mod Orders
pub mod Matrix
pub mod Blocks
pub mod Restoring
pub mod Lists
pub mod Symmetric
pub mod Reasons
pub mod Joins
pub mod Overlaps

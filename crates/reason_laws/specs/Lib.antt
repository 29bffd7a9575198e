-- Why a number was not taken (02, Ticket 7). `Sets`: the set of independent numbers that a number is the XOR of. `First`: under any order,
-- the reason that is found is the first that holds, and the only one. `Blocks`: both for the basis of a block. `Numbers`: the answer is
-- known from its numbers.
pub mod Sets
pub mod First
pub mod Blocks
pub mod Numbers

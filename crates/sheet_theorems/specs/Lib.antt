-- The bytes of a sheet: `Block` has what they tell of a list, `Printed` that the program prints a sheet or the line of a refusal, and
-- `Operations` that the bytes of the sheet operation, of the program and of an import tell the block. And the bytes of a list that the program prints,
-- read again: `Joined` has that those of a joined list are the joined rows and the same block, `Disjoint` that those of a disjoint list are the
-- disjoint rows, with the OR of all rows at each point, and that the program never refuses them with 7.
pub mod Block
pub mod Printed
pub mod Operations
pub mod Joined
pub mod Disjoint

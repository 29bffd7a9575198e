-- `symmetric_work::gray_columns` meets its contract: the rule is computed over all twelve entries and held to the constant. Assumes nothing.
use mathlib.Core.Path.{refl}
use Rattle.slices.specs.Places.{tab}
use Rattle.block.specs.Symmetric.{gray_column}
use Rattle.symmetric_work.proofs.gray_columns.Goals as goal

pub returns : goal.returns
unfolding tab gray_column
returns c = refl

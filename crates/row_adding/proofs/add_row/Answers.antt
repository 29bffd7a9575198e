-- `row_adding::add_row` meets its contract: while there is room the row is stored at the list's end. Assumes nothing.
use mathlib.Core.Path.{refl}
use native.Mathlib.Omega.{arith}
use Rattle.row_adding.specs.Held.{added-one}
use Rattle.row_adding.proofs.add_row.Goals as goal

pub returns-then-count-ge-SMALLER_ROWS : goal.returns-then-count-ge-SMALLER_ROWS
returns-then-count-ge-SMALLER_ROWS c = added-one _ _ _ _ _ _ _ _ c.requires.1 (λ l. absurd (omega arith))

pub returns : goal.returns
returns c = added-one _ _ _ _ _ _ _ _ c.requires.1 (λ l. (refl, refl, refl))

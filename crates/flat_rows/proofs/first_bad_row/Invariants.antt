-- `flat_rows::first_bad_row` meets its contract. The loop's invariant: no row passed is malformed. Assumes nothing.
use Prim.Native.Nat.{ℕ, ◌<◌}
use mathlib.Core.Path.{◌≡◌}
use mathlib.Core.Bool.{false}
use Rattle.slices.specs.Places.{at}
use Rattle.block.specs.Refusals.{bad_row}
use Rattle.block.specs.Words.{row}
use Rattle.flat_rows.proofs.first_bad_row.Given as goal

abbrev pub invariant-loop-i : goal.invariant-loop-i
invariant-loop-i l = (j : ℕ) → j < l.i → bad_row l.n l.k (row (at l.masks j) (at l.values j) (at l.words j)) ≡ false

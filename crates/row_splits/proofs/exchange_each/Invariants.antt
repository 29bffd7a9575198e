-- `row_splits::exchange_each` meets its contract. The loop's invariant: the first i numbers are exchanged, the rest is as it was.
-- Assumes nothing.
use mathlib.Core.Path.{◌≡◌}
use Rattle.slices.specs.Places.{at, tab, over}
use Rattle.block.specs.Rows.{exchange}
use Rattle.row_splits.proofs.exchange_each.Given as goal

abbrev pub invariant-loop-i : goal.invariant-loop-i
invariant-loop-i l = l.numbers ≡ over (tab l.i (λ j. exchange l.k l.h (at l.initial.numbers j))) l.initial.numbers

-- `copying::put_values` meets its contract. The loop's invariant: the first i values are stored, and the rest holds what it
-- held. Assumes nothing.
use mathlib.Core.Path.{◌≡◌}
use Rattle.slices.specs.Places.{at, tab, over}
use Rattle.copying.proofs.put_values.Given as goal

abbrev pub invariant-loop-i : goal.invariant-loop-i
invariant-loop-i l = l.out ≡ over (tab l.i (λ j. at l.by_t (at l.walk j))) l.initial.out

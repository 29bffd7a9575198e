-- `symmetric_values::fold_once` meets its contract. The loop's invariant: the first i values are folded, and the rest holds what it held.
-- Assumes nothing.
use mathlib.Core.Path.{◌≡◌}
use Prim.Native.Nat.{◌+◌}
use Rattle.slices.specs.Places.{at, tab, over}
use Rattle.symmetric_values.proofs.fold_once.Given as goal

abbrev pub invariant-loop-i : goal.invariant-loop-i
invariant-loop-i l = l.values ≡ over (tab l.i (λ j. at l.initial.values j + at l.initial.values (j + 1))) l.initial.values

-- `symmetric_values::value_at_two` meets its contract. The loop's invariant: the values of the first c counts are there.
-- Assumes nothing.
use mathlib.Core.Path.{◌≡◌}
use Rattle.slices.specs.Places.{tab, over}
use Rattle.symmetric_laws.specs.Weights.{changed, equal}
use Rattle.symmetric_laws.specs.Blocks.{word_for}
use Rattle.symmetric_values.proofs.value_at_two.Given as goal

abbrev pub invariant-loop-c : goal.invariant-loop-c
invariant-loop-c l = l.values ≡ over (tab l.c (λ i. changed (changed (equal (word_for l.words))) i i)) l.initial.values

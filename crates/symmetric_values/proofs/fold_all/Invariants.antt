-- `symmetric_values::fold_all` meets its contract. The loop's invariant: those up to `left` are folded as often as the loop went round.
-- Assumes nothing.
use Rattle.slices.specs.Places.{at}
use Rattle.symmetric_values.specs.Values.{Folded}
use Rattle.symmetric_values.proofs.fold_all.Given as goal

abbrev pub invariant-loop-left : goal.invariant-loop-left
invariant-loop-left l = Folded (at l.initial.values) l.m l.left l.values

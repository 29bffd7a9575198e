-- `symmetric_work::put_symmetric` meets its contract. The loop's invariant: the entries below 2^j are there, and the rest holds what it held.
-- Assumes nothing.
use Rattle.std.proofs.Common.{◌≡◌, ◌^◌}
use Rattle.slices.specs.Places.{tab, over}
use Rattle.block.specs.Symmetric.{of_counts}
use Rattle.symmetric_work.proofs.put_symmetric.Given as goal

abbrev pub invariant-loop-j : goal.invariant-loop-j
invariant-loop-j l = l.out ≡ over (tab (2 ^ l.j) (of_counts l.words)) l.initial.out

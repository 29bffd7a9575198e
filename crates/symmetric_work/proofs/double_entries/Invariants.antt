-- `symmetric_work::double_entries` meets its contract. The loop's invariant: the entries below 2^(j + 1) - 2^i are there, and the rest holds what
-- it held. Assumes nothing.
use Rattle.std.proofs.Common.{◌≡◌, ◌+◌, ◌-◌, ◌^◌}
use Rattle.slices.specs.Places.{tab, over}
use Rattle.block.specs.Symmetric.{of_counts}
use Rattle.symmetric_work.proofs.double_entries.Given as goal

abbrev pub invariant-loop-i : goal.invariant-loop-i
invariant-loop-i l = l.out ≡ over (tab (2 ^ (l.j + 1) - 2 ^ l.i) (of_counts l.words)) l.initial.out

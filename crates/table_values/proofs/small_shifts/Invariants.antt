-- `table_values::small_shifts` meets its contract. The loop's invariant: the first t entries hold R, and the rest what they held.
-- Assumes nothing.
use Rattle.std.proofs.Common.{◌≡◌}
use Rattle.slices.specs.Places.{tab, over}
use Rattle.block.specs.Words.{of_table}
use Rattle.block.specs.Measure.{shift}
use Rattle.table_values.proofs.small_shifts.Given as goal

abbrev pub invariant-loop-t : goal.invariant-loop-t
invariant-loop-t l = l.out ≡ over (tab l.t (shift (of_table l.table) l.n)) l.initial.out

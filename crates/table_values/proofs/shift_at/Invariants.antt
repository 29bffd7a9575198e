-- `table_values::shift_at` meets its contract. The loop's invariant: r counts the points before x that have one word at x and x XOR t.
-- Assumes nothing.
use Rattle.std.proofs.Common.{◌≡◌}
use Rattle.sums.specs.Sums.{count}
use Rattle.block.specs.Words.{of_table}
use Rattle.block.specs.Measure.{same}
use Rattle.table_values.proofs.shift_at.Given as goal

abbrev pub invariant-loop-x : goal.invariant-loop-x
invariant-loop-x l = l.r ≡ count (same (of_table l.table) l.t) l.x

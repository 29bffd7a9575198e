-- `table_shifts::shift_by_blocks` meets its contract. The loop's invariant: r is what the pairs of blocks before b add. Assumes nothing.
use mathlib.Core.Path.{◌≡◌}
use Rattle.sums.specs.Sums.{sum}
use Rattle.table_words.specs.Matching.{pair_adds}
use Rattle.table_shifts.proofs.shift_by_blocks.Given as goal

abbrev pub invariant-loop-b : goal.invariant-loop-b
invariant-loop-b l = l.r ≡ sum (pair_adds l.table l.copy l.high) l.b

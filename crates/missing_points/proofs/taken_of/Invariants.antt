-- `missing_points::taken_of` meets its contract. The loop's invariant: the sum is what the rows before i take. No sum on the way
-- passes the points twice. Assumes nothing.
use mathlib.Core.Path.{◌≡◌}
use Rattle.sums.specs.Sums.{sum as sum_of}
use Rattle.block.specs.Words.{rows_of}
use Rattle.block.specs.Refusals.{row_at}
use Rattle.pair_laws.specs.Theorem.{takes}
use Rattle.missing_points.proofs.taken_of.Given as goal

abbrev pub invariant-loop-i : goal.invariant-loop-i
invariant-loop-i l = l.sum ≡ sum_of (λ k. takes l.missing l.n (row_at (rows_of l.masks l.values l.words) k)) l.i

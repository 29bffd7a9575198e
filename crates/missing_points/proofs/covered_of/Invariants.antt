-- `missing_points::covered_of` meets its contract. The loop's invariant: the sum is how many points the rows before i cover. No sum on the
-- way passes the number of points. Assumes nothing.
use mathlib.Core.Path.{◌≡◌}
use Prim.Native.Nat.{ℕ, ◌-◌, ◌^◌}
use lib.Count.{ones}
use Rattle.sums.specs.Sums.{sum as sum_of}
use Rattle.block.specs.Words.{rows_of}
use Rattle.block.specs.Refusals.{row_at}
use Rattle.block.specs.declared.Row.{Row}
use Rattle.missing_points.proofs.covered_of.Given as goal

-- how many points lie under a row
abbrev pub points_under : ℕ → Row → ℕ
points_under n r = 2 ^ (n - ones r.mask)

abbrev pub invariant-loop-i : goal.invariant-loop-i
invariant-loop-i l = l.sum ≡ sum_of (λ k. points_under l.n (row_at (rows_of l.masks l.values l.words) k)) l.i

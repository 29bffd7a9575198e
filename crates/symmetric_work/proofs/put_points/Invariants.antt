-- `symmetric_work::put_points` meets its contract. The loop's invariant: T at each number below 2^i is there, and the rest holds what it held.
-- Assumes nothing.
use Rattle.std.proofs.Common.{◌≡◌, ◌^◌}
use Rattle.slices.specs.Places.{tab, over}
use Rattle.block.specs.Basis.{columns}
use Rattle.block.specs.Symmetric.{gray_column}
use Rattle.symmetric_work.proofs.put_points.Given as goal

abbrev pub invariant-loop-i : goal.invariant-loop-i
invariant-loop-i l = l.out ≡ over (tab (2 ^ l.i) (columns gray_column l.n)) l.initial.out

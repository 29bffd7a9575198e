-- `symmetric_work::double_points` meets its contract. The loop's invariant: T at each number below size + z is there, and the rest holds what it
-- held. Assumes nothing.
use Rattle.std.proofs.Common.{◌≡◌, ◌+◌, ◌^◌}
use Rattle.slices.specs.Places.{tab, over}
use Rattle.block.specs.Basis.{columns}
use Rattle.block.specs.Symmetric.{gray_column}
use Rattle.symmetric_work.proofs.double_points.Given as goal

abbrev pub invariant-loop-z : goal.invariant-loop-z
invariant-loop-z l = l.out ≡ over (tab (2 ^ l.i + l.z) (columns gray_column l.n)) l.initial.out

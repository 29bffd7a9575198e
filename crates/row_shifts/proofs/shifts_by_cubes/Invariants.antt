-- `row_shifts::shifts_by_cubes` meets its contract. The loop's invariant: the first i entries hold what is due, and the rest what they
-- held. Assumes nothing.
use mathlib.Core.Path.{◌≡◌}
use Prim.Native.Nat.{◌+◌, ◌-◌}
use Rattle.slices.specs.Places.{at, tab, over}
use Rattle.row_shifts.specs.Stored.{added_by}
use Rattle.row_shifts.proofs.shifts_by_cubes.Given as goal

abbrev pub invariant-loop-i : goal.invariant-loop-i
invariant-loop-i l = l.out ≡ over (tab l.i (λ j. at l.initial.out j + added_by l.cube_masks l.cube_values l.cube_weights l.count (at l.ts j) - l.less)) l.initial.out

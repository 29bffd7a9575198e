-- `row_shifts::shift_by_cubes` meets its contract. The loop's invariant: the sum is what the cubes before q add. No
-- sum on the way passes the last. Assumes nothing.
use mathlib.Core.Path.{◌≡◌}
use Rattle.row_shifts.specs.Stored.{added_by}
use Rattle.row_shifts.proofs.shift_by_cubes.Given as goal

abbrev pub invariant-loop-q : goal.invariant-loop-q
invariant-loop-q l = l.sum ≡ added_by l.cube_masks l.cube_values l.cube_weights l.q l.t

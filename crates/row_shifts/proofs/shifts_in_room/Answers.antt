-- `row_shifts::shifts_in_room` meets its contract: what the points and the cubes of disjoint rows add is R with what the rows take. Assumes
-- nothing.
use native.Mathlib.Omega.{arith}
use Rattle.block.specs.Limits.{list_inputs}
use Rattle.block.specs.Words.{rows_of}
use Rattle.pair_laws.specs.Theorem.{counts-le}
use Rattle.missing_points.specs.Looped.{cubes-few}
use Rattle.row_shifts.specs.Due.{due-done, all-due}
use Rattle.row_shifts.proofs.shifts_in_room.Goals as goal

pub shifts_by_cubes-requires : goal.shifts_by_cubes-requires
shifts_by_cubes-requires c =
    let a = c.args in
    let p = c.put_cubes-count in
    let k = p.auto in
    let counted = c.missing_counts-more.ensures in
    let once = counts-le a.missing in
    let few = cubes-few a.missing c.missing_counts-more.result a.n c.requires.n_le_list_inputs.1 in
    let number = p.ensures.count in
    let d = all-due a.missing a.n (rows_of a.masks.now a.values.now a.words.now) c.requires.disjoint list_inputs c.requires.n_le_list_inputs.0
    c.missing_counts-more.result (omega (arith, counted, once)) _ _ _ _ _ _ _ p.ensures a.ts.now a.places
    c.requires.places_in_bounds.2 counted _ _ c.points_of-points.ensures c.taken_of-less.ensures _ _ c.put_all.ensures in record {
      count_in_bounds = (omega (arith, k.cube_masks, c.requires.roomy.0), omega (arith, k.cube_values, c.requires.roomy.1), omega (arith, k.cube_weights, c.requires.roomy.2));
      places_in_bounds = (c.requires.places_in_bounds.0, omega arith);
      by_index = d.entries;
      by_index_2 = d.cubes;
      by_index_3 = λ i h. omega (arith, d.sums i h);
    }

pub returns : goal.returns
returns c =
    let a = c.args in
    let counted = c.missing_counts-more.ensures in
    let once = counts-le a.missing in
    let d = all-due a.missing a.n (rows_of a.masks.now a.values.now a.words.now) c.requires.disjoint list_inputs c.requires.n_le_list_inputs.0
    c.missing_counts-more.result (omega (arith, counted, once)) _ _ _ _ _ _ _ c.put_cubes-count.ensures a.ts.now
    a.places c.requires.places_in_bounds.2 counted _ _ c.points_of-points.ensures c.taken_of-less.ensures _ _
    c.put_all.ensures in
    due-done _ _ _ _ _ _ _ _ _ _ _ _ _ d c.put_all.ensures c.shifts_by_cubes.ensures

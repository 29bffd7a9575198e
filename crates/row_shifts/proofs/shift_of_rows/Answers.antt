-- `row_shifts::shift_of_rows` meets its contract: what the points and the pairs add is R with what the rows take. Assumes nothing.
use mathlib.Core.Path.{◌≡◌}
use Prim.Native.Nat.{◌+◌}
use native.Mathlib.Omega.{arith}
use lib.Pow.{pow_mono}
use Rattle.block.specs.Limits.{list_inputs}
use Rattle.block.specs.Words.{of_rows, rows_of}
use Rattle.block.specs.Measure.{shift}
use Rattle.pair_laws.specs.Theorem.{taken-le, shift_le}
use Rattle.missing_points.specs.Looped.{shift-parts}
use Rattle.row_shifts.proofs.shift_of_rows.Goals as goal
use Rattle.row_shifts.proofs.shift_of_rows.Goals.{After-pairs_add}

-- what the points and the pairs add
sums : (c : goal.After-pairs_add) → c.points_of-points.result + c.pairs_add.result
    ≡ shift
    (of_rows c.args.missing (rows_of c.args.masks.now c.args.values.now c.args.words.now))
    c.args.n c.args.t
    + c.taken_of-less.result
sums c =
    let a = c.args in
    shift-parts a.missing a.n (rows_of a.masks.now a.values.now a.words.now) c.requires.disjoint a.t c.requires.n_le_list_inputs.1 _ _ _ _
    c.missing_counts-more.ensures c.points_of-points.ensures c.taken_of-less.ensures c.pairs_add.ensures

pub overflow_add-result : goal.overflow_add-result
overflow_add-result c =
    let a = c.args in
    let rs = rows_of a.masks.now a.values.now a.words.now in
    omega (
      arith,
      sums (goal.at.overflow_add-result c).After-pairs_add,
      c.taken_of-less.ensures,
      shift_le (of_rows a.missing rs) a.n a.t,
      taken-le a.missing a.n rs c.requires.disjoint,
      pow_mono {j = list_inputs} c.requires.n_le_list_inputs.0,
    )

pub overflow_sub-result : goal.overflow_sub-result
overflow_sub-result c = omega (arith, sums (goal.at.overflow_sub-result c).After-pairs_add)

pub returns : goal.returns
returns c = omega (arith, sums (goal.at.returns c).After-pairs_add)

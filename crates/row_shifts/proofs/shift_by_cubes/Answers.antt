use mathlib.Core.Path.{sym}
use native.Mathlib.Omega.{arith}
use Rattle.sums.specs.Laws.{sum-zero}
use Rattle.row_shifts.specs.Stored.{added_more, added-step}
use Rattle.row_shifts.proofs.shift_by_cubes.Goals as goal

pub loop-q-init : goal.loop-q-init
loop-q-init c = sym (sum-zero _)

pub overflow_add-sum : goal.overflow_add-sum
overflow_add-sum c =
    let a = c.args in
    omega (
      arith,
      added-step a.cube_masks.now a.cube_values.now a.cube_weights.now a.count a.t c.loop-q.q (omega arith),
      c.cube_adds-sum.ensures,
    )

pub loop-q-preserved : goal.loop-q-preserved
loop-q-preserved c =
    let a = c.args in
    added_more a.cube_masks.now a.cube_values.now a.cube_weights.now a.t c.loop-q.q _ (omega (arith, c.cube_adds-sum.ensures))

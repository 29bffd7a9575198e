use native.Mathlib.Omega.{arith}
use Rattle.slices.specs.Filled.{over_none, over-more}
use Rattle.block.specs.Words.{of_table}
use Rattle.block.specs.Measure.{shift}
use Rattle.table_values.proofs.small_shifts.Goals as goal

pub loop-t-init : goal.loop-t-init
loop-t-init c = over_none _ _

pub loop-t-preserved : goal.loop-t-preserved
loop-t-preserved c =
    let f = shift (of_table c.args.table.now) c.args.n in
    over-more _ f _ _ _ c.loop-t.invariant c.shift_at.ensures (omega arith)

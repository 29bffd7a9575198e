use Prim.Native.Nat.{ℕ, ◌^◌}
use native.Mathlib.Omega.{arith}
use Rattle.slices.specs.Filled.{over_none, over-more}
use Rattle.matrix_work.proofs.put_units.Goals as goal

pub loop-j-init : goal.loop-j-init
loop-j-init c = over_none _ _

pub loop-j-preserved : goal.loop-j-preserved
loop-j-preserved c =
    over-more _ (λ (j : ℕ). 2 ^ j) _ _ _ c.loop-j.invariant c.power.ensures (omega arith)

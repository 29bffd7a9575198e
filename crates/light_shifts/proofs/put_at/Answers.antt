use mathlib.Core.Path.{refl}
use Prim.Native.Nat.{ℕ, ◌+◌, ◌-◌}
use native.Mathlib.Omega.{arith}
use Rattle.slices.specs.Places.{at}
use Rattle.slices.specs.Filled.{over_none, over-more}
use Rattle.light_shifts.proofs.put_at.Goals as goal

pub loop-i-init : goal.loop-i-init
loop-i-init c = over_none _ _

pub loop-i-preserved : goal.loop-i-preserved
loop-i-preserved c =
    let a = c.args in
    let f : ℕ → ℕ = λ j. a.points + at a.acc.now (at a.ts.now j) - a.less in
    over-more _ f _ _ _ c.loop-i.invariant refl (omega arith)

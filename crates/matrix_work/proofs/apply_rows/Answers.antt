use mathlib.Core.Path.{◌≡◌, sym, ap₂, ◌∙◌}
use Prim.Native.Nat.{◌<◌, ◌+◌, ◌*◌, ◌^◌}
use native.Mathlib.Omega.{arith}
use lib.Pow.{pow_mono}
use Rattle.slices.specs.Places.{at}
use Rattle.block.specs.Limits.{list_inputs}
use Rattle.block.specs.Basis.{apply}
use Rattle.matrix_laws.specs.Linear.{apply-none, apply-more, apply-lt}
use Rattle.matrix_work.proofs.apply_rows.Goals as goal
use Rattle.matrix_work.proofs.apply_rows.Goals.{After-power}

-- the sum of a turn is the matrix with a row more
next : (c : goal.After-power) → c.loop-j.r + c.parity_of.result * c.power.result
    ≡ apply (at c.args.s.now) (c.loop-j.j + 1) c.args.x
next c =
    ap₂ ◌+◌ c.loop-j.invariant (ap₂ ◌*◌ c.parity_of.ensures c.power.ensures)
    ∙ sym (apply-more _ _ _)

small : (c : goal.After-power) → c.loop-j.r + c.parity_of.result * c.power.result < 2 ^ list_inputs
small c =
    let a = c.args in
    let most = pow_mono {i = c.loop-j.j + 1} {j = list_inputs} (omega arith) in
    rw (next c) (omega (arith, apply-lt (at a.s.now) (c.loop-j.j + 1) a.x))

pub loop-j-init : goal.loop-j-init
loop-j-init c = sym (apply-none _ _)

pub overflow_mul-r : goal.overflow_mul-r
overflow_mul-r c = omega (arith, small (goal.at.overflow_mul-r c).After-power)

pub overflow_add-r : goal.overflow_add-r
overflow_add-r c = omega (arith, small (goal.at.overflow_add-r c).After-power)

pub loop-j-preserved : goal.loop-j-preserved
loop-j-preserved c = next (goal.at.loop-j-preserved c).After-power

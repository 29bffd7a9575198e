use mathlib.Core.Path.{ap, ◌∙◌}
use Prim.Native.Nat.{ℕ, ◌^◌}
use native.Mathlib.Omega.{arith}
use Rattle.slices.specs.Places.{at}
use Rattle.slices.specs.Filled.{over_none, over-more}
use Rattle.block.specs.Basis.{apply}
use Rattle.matrix_work.proofs.put_columns.Goals as goal

pub loop-j-init : goal.loop-j-init
loop-j-init c = over_none _ _

pub loop-j-preserved : goal.loop-j-preserved
loop-j-preserved c =
    let a = c.args in
    over-more _ (λ (j : ℕ). apply (at a.s.now) a.n (2 ^ j)) _ _ _ c.loop-j.invariant
    (c.apply_rows.ensures ∙ ap (apply (at a.s.now) a.n) c.power.ensures) (omega arith)

use Rattle.std.proofs.Common.{refl, arith}
use Rattle.slices.specs.Filled.{over_none, over-more}
use Rattle.slices.specs.Places.{at}
use Rattle.copying.proofs.put_values.Goals as goal

pub loop-i-init : goal.loop-i-init
loop-i-init c = over_none _ _

pub loop-i-preserved : goal.loop-i-preserved
loop-i-preserved c =
    let a = c.args in
    over-more _ (λ j. at a.by_t.now (at a.walk.now j)) _ _ _ c.loop-i.invariant refl (omega arith)

use Prim.Native.Nat.{◌<◌}
use mathlib.Core.Path.{sym, ◌∙◌}
use native.Mathlib.Omega.{arith}
use lib.ListN.{length}
use Rattle.light_adding.specs.Front.{put-none, put-free, put-fixed, put-room}
use Rattle.light_adding.proofs.put_free.Goals as goal
use Rattle.light_adding.proofs.put_free.Goals.{After-power, then-bit_of-eq0, else-bit_of-eq0}

-- there is room for one more
below : (c : goal.After-power) → c.loop-i.count < length c.loop-i.out
below c =
    omega (arith, c.loop-i.invariant.size, put-room _ _ _ _ _ c.loop-i.invariant, c.requires.1)

pub loop-i-init : goal.loop-i-init
loop-i-init c = put-none _ _

pub bounds-out-count : goal.bounds-out-count
bounds-out-count c = below (goal.at.bounds-out-count c).After-power

pub loop-i-preserved : goal.loop-i-preserved
loop-i-preserved c =
    let o = c.loop-i in
    let bit = c.bit_of.ensures in
    elim c.if-bit_of-eq0.branch [
      | then-bit_of-eq0 w ↦ put-free _ o.i o.count _ _ _ _ _ (omega arith) (sym bit ∙ w.if-bit_of-eq0.true) w.power.ensures w.out-is w.count-is o.invariant
      | else-bit_of-eq0 w ↦ put-fixed _ o.i o.count _ _ _ _ (λ e. w.if-bit_of-eq0.false (bit ∙ e)) w.out-is w.count-is o.invariant
    ]

use mathlib.Core.Path.{refl}
use Prim.Native.Nat.{◌+◌, ◌*◌, ◌^◌, ◌<◌}
use native.Mathlib.Omega.{arith}
use lib.Bits.{bit_xor}
use lib.ListN.{length}
use Rattle.slices.specs.Places.{at}
use Rattle.light_laws.specs.Ways.{ways}
use Rattle.light_laws.specs.Counted.{ways-one-le}
use Rattle.light_adding.specs.Raised.{Raised, Below, most_weight, raised-here, raised-flat, raised-room, since_none, since-more}
use Rattle.light_adding.proofs.add_ones.Goals as goal
use Rattle.light_adding.proofs.add_ones.Goals.{At-loop-k, In-loop-k}

-- what the array was raised by
raised : (c : goal.At-loop-k) → Raised c.args.weight (ways 1 c.args.ps.now c.loop-k.k c.args.b) c.args.acc.now c.loop-k.acc
raised c =
    c.loop-k.invariant _ c.add_here.ensures

-- how high its entries are
room : (c : goal.At-loop-k) → Below (2 ^ 30 + most_weight * 17) c.loop-k.acc
room c =
    raised-room _ 17 (2 ^ 30) _ _ _ (raised c) c.requires.b_in_bounds.1
    (λ t. ways-one-le _ c.loop-k.k _ t (omega (arith, c.requires.b_in_bounds.2))) c.requires.inside.1

-- the number with one flipped is a place of the array
place : (c : goal.In-loop-k) → bit_xor c.args.b (at c.args.ps.now c.loop-k.k) < length c.loop-k.acc
place c =
    omega (arith, ((let it : Raised c.args.weight (ways 1 c.args.ps.now c.loop-k.k c.args.b) c.args.acc.now c.loop-k.acc = c.loop-k.invariant _ c.add_here.ensures in it)).long, c.requires.inside.0 c.args.b c.loop-k.k c.requires.b_in_bounds.0 (omega arith))

pub loop-k-init : goal.loop-k-init
loop-k-init c = since_none _ 1 _ _ _

pub overflow_add-acc : goal.overflow_add-acc
overflow_add-acc c =
    omega (arith, room (goal.at.overflow_add-acc c).At-loop-k _ (place (goal.at.overflow_add-acc c).In-loop-k), c.requires.b_in_bounds.1)

pub loop-k-preserved : goal.loop-k-preserved
loop-k-preserved c =
    since-more _ 0 _ _ _ _ _ _ c.loop-k.invariant (raised-flat _ _ _ _ _ _ (raised-here _ _ _ _ (place (goal.at.loop-k-preserved c).In-loop-k) refl))

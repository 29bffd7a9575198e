use Prim.Native.Nat.{◌+◌, ◌*◌, ◌^◌}
use native.Mathlib.Omega.{arith}
use Rattle.light_laws.specs.Ways.{ways}
use Rattle.light_laws.specs.Counted.{ways-two-le}
use Rattle.light_adding.specs.Raised.{Raised, Below, most_weight, raised-room, since_none, since-more}
use Rattle.light_adding.proofs.add_twos.Goals as goal
use Rattle.light_adding.proofs.add_twos.Goals.{At-loop-k}

-- what the array was raised by
raised : (c : goal.At-loop-k) → Raised c.args.weight (ways 2 c.args.ps.now c.loop-k.k c.args.b) c.args.acc.now c.loop-k.acc
raised c =
    c.loop-k.invariant _ c.add_here.ensures

-- how high its entries are
room : (c : goal.At-loop-k) → Below (2 ^ 29 + most_weight * 137) c.loop-k.acc
room c =
    raised-room _ 137 (2 ^ 29) _ _ _ (raised c) c.requires.b_in_bounds.1
    (λ t. ways-two-le _ c.loop-k.k _ t (omega (arith, c.requires.b_in_bounds.2))) c.requires.inside.1

pub loop-k-init : goal.loop-k-init
loop-k-init c = since_none _ 2 _ _ _

pub add_ones-requires : goal.add_ones-requires
add_ones-requires c =
    let p = c.requires in
    let long = (raised (goal.at.add_ones-requires c).At-loop-k).long in record {
      b_in_bounds = (
        omega (arith, long, p.inside.0 c.args.b c.loop-k.k p.b_in_bounds.0 (omega arith)),
        p.b_in_bounds.1,
        omega (arith, p.b_in_bounds.2),
        omega arith,
      );
      inside = (
        λ x k h l. omega (arith, long, p.inside.0 x k (omega (arith, long)) (omega arith)),
        λ t h. omega (arith, room (goal.at.add_ones-requires c).At-loop-k t h),
      );
    }

pub loop-k-preserved : goal.loop-k-preserved
loop-k-preserved c = since-more _ 1 _ _ _ _ _ _ c.loop-k.invariant c.add_ones.ensures

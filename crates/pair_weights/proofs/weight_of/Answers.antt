-- `pair_weights::weight_of` meets its contract: the two fix at most n inputs, so the power is one of 0 to n. Assumes nothing.
use Prim.Native.Nat.{◌≤◌, ◌-◌, ◌*◌, ◌^◌}
use native.Mathlib.Omega.{arith}
use lib.Bits.{bit_or, or_lt}
use lib.Count.{ones, ones-le}
use Rattle.block.specs.Limits.{list_inputs}
use Rattle.pair_weights.specs.Places.{weight-small}
use Rattle.pair_weights.proofs.weight_of.Goals as goal
use Rattle.pair_weights.proofs.weight_of.Goals.{Start}

-- the inputs that one of the two fixes
few : (c : goal.Start) → ones (bit_or c.args.mask c.args.mask2) ≤ c.args.n
few c =
    ones-le c.args.n _ (or_lt c.args.n c.args.mask c.args.mask2 c.requires.1 c.requires.2)

pub overflow_sub-n : goal.overflow_sub-n
overflow_sub-n c = omega (arith, few (goal.at.overflow_sub-n c).Start)

-- what each order weighs
small : (c : goal.Start) → 2 ^ (c.args.n - ones (bit_or c.args.mask c.args.mask2)) * c.args.times ≤ 2 ^ list_inputs * 2
small c =
    weight-small c.args.n (ones (bit_or c.args.mask c.args.mask2)) c.args.times list_inputs c.requires.0 c.requires.3

pub overflow_mul-result : goal.overflow_mul-result
overflow_mul-result c = rw c.power.ensures (omega (arith, small (goal.at.overflow_mul-result c).Start))

use mathlib.Core.Path.{ap}
use Prim.Native.Nat.{ℕ, ◌-◌, ◌^◌, ◌<◌}
use native.Mathlib.Omega.{arith}
use lib.Bits.{bit_xor, and_self, and_le_r}
use lib.ListN.{length-set}
use lib.Pow.{pow_pos, pow_mono}
use Rattle.filling.specs.Points.{point-lt, parts_none, parts-step, part-again, parts_all}
use Rattle.filling.proofs.put_row.Goals as goal
use Rattle.filling.proofs.put_row.Goals.{At-loop-part}

-- the place written lies in the table
near : (c : goal.At-loop-part) → bit_xor c.args.values c.loop-part.part < 2 ^ c.args.n
near c =
    point-lt _ _ c.requires.2 _ c.loop-part.invariant.1

pub overflow_sub-free : goal.overflow_sub-free
overflow_sub-free c = omega (arith, c.power.ensures, pow_pos c.args.n)

pub loop-part-init : goal.loop-part-init
loop-part-init c =
    let e = ap (λ (p : ℕ). bit_xor (p - 1) c.args.mask) c.power.ensures in
    (e, rw e (and_self _), parts_none _ _ c.requires.2 _ e _)

pub overflow_cast-out : goal.overflow_cast-out
overflow_cast-out c = omega (arith, near (goal.at.overflow_cast-out c).At-loop-part, pow_mono c.requires.0)

pub offset_bounds-out-values : goal.offset_bounds-out-values
offset_bounds-out-values c = omega (arith, near (goal.at.offset_bounds-out-values c).At-loop-part, pow_mono c.requires.0)

pub bounds-out-values : goal.bounds-out-values
bounds-out-values c = omega (arith, near (goal.at.bounds-out-values c).At-loop-part, c.loop-part.invariant.2.size)

pub loop-part-smaller : goal.loop-part-smaller
loop-part-smaller c = omega (arith, and_le_r (bit_xor (c.power.result - 1) c.args.mask) (c.loop-part.part - 1))

pub loop-part-preserved : goal.loop-part-preserved
loop-part-preserved c =
    let i = c.loop-part.invariant in
    (i.0, part-again _ _ c.requires.2 _ i.0 _, parts-step _ _ c.requires.2 _ i.1 _ i.0 _ _ c.requires.1 i.2)

pub overflow_cast-out-2 : goal.overflow_cast-out-2
overflow_cast-out-2 c = omega (arith, near (goal.at.overflow_cast-out-2 c).At-loop-part, pow_mono c.requires.0)

pub offset_bounds-out-values-2 : goal.offset_bounds-out-values-2
offset_bounds-out-values-2 c = omega (arith, near (goal.at.offset_bounds-out-values-2 c).At-loop-part, pow_mono c.requires.0)

pub bounds-out-values-2 : goal.bounds-out-values-2
bounds-out-values-2 c = omega (arith, near (goal.at.bounds-out-values-2 c).At-loop-part, c.loop-part.invariant.2.size)

pub shape_of-out : goal.shape_of-out
shape_of-out c = simp length-set c.loop-part.invariant.2.size

pub returns : goal.returns
returns c =
    let i = c.loop-part.invariant in
    parts_all _ _ c.requires.2 _ (omega arith) i.1 _ _ c.requires.1 i.2

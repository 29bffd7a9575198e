use mathlib.Core.Path.{◌≡◌, refl, sym, ◌∙◌}
use Prim.Native.Nat.{◌^◌, ◌≤◌, ◌<◌}
use native.Mathlib.Numerals.{add-one}
use native.Mathlib.Omega.{arith}
use lib.Pow.{pow_mono}
use Rattle.read_row.specs.Told.{told-small, bit-more, step-told}
use Rattle.read_laws.specs.ByPlace.{spelled_at}
use Rattle.read_row.proofs.spelling.Goals as goal
use Rattle.read_row.proofs.spelling.Goals.{In-loop-i}

-- what is spelled so far stays below 2^31 while a symbol is left
small : (c : goal.In-loop-i) → (c.loop-i.m < 2 ^ 31) × (c.loop-i.v < 2 ^ 31) × (c.loop-i.bad < 32)
small c =
    let l = c.loop-i in
    let h : l.i ≤ 31 = omega arith in
    let p : 2 ^ l.i ≤ 2 ^ 31 = pow_mono h in
    omega (arith, p, l.invariant.0, l.invariant.1, l.invariant.2)

pub loop-i-init : goal.loop-i-init
unfolding spelled_at
loop-i-init c = (omega arith, omega arith, omega arith, refl)

pub overflow_mul-m : goal.overflow_mul-m
overflow_mul-m c = omega (arith, small (goal.at.overflow_mul-m c).In-loop-i)

pub overflow_add-m : goal.overflow_add-m
overflow_add-m c =
    omega (arith, small (goal.at.overflow_add-m c).In-loop-i, c.fixed.ensures, told-small c.byte-b.result 0)

pub overflow_mul-v : goal.overflow_mul-v
overflow_mul-v c = omega (arith, small (goal.at.overflow_mul-v c).In-loop-i)

pub overflow_add-v : goal.overflow_add-v
overflow_add-v c =
    omega (arith, small (goal.at.overflow_add-v c).In-loop-i, c.one.ensures, told-small c.byte-b.result 0)

pub overflow_add-bad : goal.overflow_add-bad
overflow_add-bad c =
    let free = c.args.free in
    omega (arith, small (goal.at.overflow_add-bad c).In-loop-i, c.strange-bad.ensures, told-small c.byte-b.result free)

pub loop-i-preserved : goal.loop-i-preserved
unfolding spelled_at
loop-i-preserved c =
    let l = c.loop-i in
    let free = c.args.free in
    let byte = c.byte-b in
    let few = told-small byte.result free in
    let fixed = c.fixed.ensures in
    let one = c.one.ensures in
    let strange = c.strange-bad.ensures in (
      bit-more l.m _ l.i l.invariant.0 (rw fixed few.0),
      bit-more l.v _ l.i l.invariant.1 (rw one few.1),
      omega (arith, strange, few.2),
      rw (add-one, l.invariant.3, ← byte.ensures.value, fixed, one, strange) (step-told l.bad l.m l.v byte.result free),
    )

pub returns : goal.returns
returns c =
    let l = c.loop-i in
    let e : l.i ≡ c.args.count = omega arith in
    c.told.ensures ∙ rw (← e) (sym l.invariant.3)

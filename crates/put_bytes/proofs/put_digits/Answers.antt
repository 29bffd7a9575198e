use Rattle.std.proofs.Common.{◌≡◌, sym, ◌∙◌, refl, arith}
use Rattle.put_bytes.specs.Digits.{last_digits, length_last, last-down}
use Rattle.put_bytes.proofs.put_digits.Goals as goal

pub overflow_add-out-in-loop-i : goal.overflow_add-out-in-loop-i
overflow_add-out-in-loop-i c = omega (arith, length_last)

pub bounds-out-at : goal.bounds-out-at
bounds-out-at c = omega (arith, length_last)

pub loop-i-preserved : goal.loop-i-preserved
loop-i-preserved c =
    let l = c.loop-i in
    l.invariant ∙ last-down l.out c.args.at c.args.base l.i l.rest c.loop-i-test.true

pub overflow_add-result : goal.overflow_add-result
overflow_add-result c = omega (arith, length_last)

pub returns : goal.returns
unfolding last_digits
returns c =
    let e : c.loop-i.i ≡ 0 = omega arith in
    record { place = omega (arith, length_last); stored = sym (c.loop-i.invariant ∙ rw e refl) }

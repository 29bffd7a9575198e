use mathlib.Core.Path.{◌≡◌, sym, ◌∙◌}
use native.Mathlib.Omega.{arith}
use borrow.Author.Count.{below_more}
use Rattle.read_laws.specs.ByPlace.{longest}
use Rattle.read_bytes.specs.Digits.{value_none, value-more, value-below, number-ends}
use Rattle.read_bytes.proofs.number_at.Goals as goal

pub loop-count-init : goal.loop-count-init
loop-count-init c = (λ j h. absurd (omega arith), value_none c.args.s.now c.args.from)

pub returns-then-not-is_digit-clause-value : goal.returns-then-not-is_digit-clause-value
returns-then-not-is_digit-clause-value c =
    let a = c.args in
    let here = c.byte-b.ensures.value in
    c.ended.ensures.value
    ∙ rw (c.loop-count.invariant.1, c.byte-lead.ensures.value, here)
    (number-ends a.s.now a.from a.most c.loop-count.count (omega arith) c.loop-count.invariant.0
    (λ _. rw (← here) (sym c.is_digit.ensures ∙ c.if-not-is_digit.true)))

pub overflow_mul-v : goal.overflow_mul-v
overflow_mul-v c =
    let a = c.args in
    omega (arith, c.loop-count.invariant.1, value-below a.s.now a.from longest c.loop-count.count (omega arith) c.loop-count.invariant.0)

pub overflow_add-v : goal.overflow_add-v
overflow_add-v c =
    let a = c.args in
    omega (arith, c.loop-count.invariant.1, c.byte-b.ensures.upper_bound, value-below a.s.now a.from longest c.loop-count.count (omega arith) c.loop-count.invariant.0)

pub loop-count-preserved : goal.loop-count-preserved
loop-count-preserved c =
    let a = c.args in
    let here = c.byte-b.ensures.value in (
      below_more _ _ c.loop-count.invariant.0 (rw (← here) (sym c.is_digit.ensures ∙ c.if-not-is_digit.false)),
      rw (c.loop-count.invariant.1, here) (value-more a.s.now a.from c.loop-count.count),
    )

pub returns-clause-value : goal.returns-clause-value
returns-clause-value c =
    let a = c.args in
    let e : c.loop-count.count ≡ a.most = omega arith in
    c.ended-2.ensures.value
    ∙ rw (c.loop-count.invariant.1, c.byte-lead.ensures.value, c.byte.ensures.value, ← e)
    (number-ends a.s.now a.from c.loop-count.count c.loop-count.count (omega arith) c.loop-count.invariant.0 (λ l. absurd (omega arith)))

use Rattle.std.proofs.Common.{ℕ, ◌+◌, ◌*◌, refl, sym, ap, ◌∙◌, arith}
use Rattle.model_laws.specs.Powers.{power-more, power_le}
use Rattle.model_values.specs.Driven.{driven_word, begun-none, begun_more, begun-le, word_none, word-goes-on}
use Rattle.model_values.proofs.driven_word.Goals as goal

pub loop-j-init : goal.loop-j-init
loop-j-init c =
    let a = c.args in
    (sym (word_none a.counts.now a.masks.now a.values.now a.z), refl, omega arith, sym (begun-none a.counts.now))

pub is_driven-requires : goal.is_driven-requires
is_driven-requires c =
    let counts = c.args.counts.now in
    let j = c.loop-j.j in
    let more = begun_more counts j (omega arith) in
    let le = begun-le counts (j + 1) in
    (omega arith, omega arith)

pub overflow_add-word : goal.overflow_add-word
overflow_add-word c = omega (arith, c.weighed-word.ensures.upper_bound, power_le c.loop-j.j (omega arith))

pub overflow_mul-power : goal.overflow_mul-power
overflow_mul-power c = omega (arith, power_le c.loop-j.j (omega arith))

pub overflow_add-from : goal.overflow_add-from
overflow_add-from c =
    let counts = c.args.counts.now in
    let j = c.loop-j.j in
    omega (arith, begun_more counts j (omega arith), begun-le counts (j + 1))

pub loop-j-preserved : goal.loop-j-preserved
loop-j-preserved c =
    let a = c.args in
    let l = c.loop-j in (
      word-goes-on a.counts.now a.masks.now a.values.now a.z l.j _ _ _ _ _ l.invariant.0 l.invariant.1 l.invariant.3
          refl (rw c.is_driven.ensures at c.weighed-word.ensures.value),
      ap (λ (x : ℕ). x * 2) l.invariant.1 ∙ power-more l.j,
      omega (arith, c.weighed-word.ensures.upper_bound),
      omega (arith, begun_more a.counts.now l.j (omega arith)),
    )

pub returns : goal.returns
returns c =
    let a = c.args in
    c.loop-j.invariant.0 ∙ ap (λ (j : ℕ). driven_word j a.counts.now a.masks.now a.values.now a.z) (omega arith)

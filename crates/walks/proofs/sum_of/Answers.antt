use mathlib.Core.Path.{◌≡◌, sym, ap, ap₂, ◌∙◌}
use Prim.Native.Nat.{ℕ, ◌+◌}
use native.Mathlib.Omega.{arith}
use Rattle.std.proofs.Common.{length-take}
use Rattle.std.proofs.lemmas.List.{get_or-take}
use Rattle.slices.specs.Places.{at}
use Rattle.sums.specs.Sums.{sum}
use Rattle.sums.specs.Laws.{sum-zero, sum_more}
use Rattle.walks.specs.Walk.{value_at}
use borrow.Author.Rules.{rules}
use Rattle.walks.proofs.sum_of.Goals as goal

turn : (g : ℕ → ℕ) (i r x : ℕ) → r ≡ sum g i → x ≡ g i → r + x ≡ sum g (i + 1)
turn g i r x e d = ap₂ ◌+◌ e d ∙ sym (sum_more g i)

pub loop-term-init : goal.loop-term-init
loop-term-init c = (search rules, sym (sum-zero _))

pub loop-term-preserved : goal.loop-term-preserved
loop-term-preserved c =
    let a = c.args in
    let wide : c.from-r.result ≡ c.value_of.result = omega arith in
    let value = value_at a.walk.now a.values.now a.count in (
      search rules,
      turn (λ (j : ℕ). value (at a.terms.now j)) _ _ _ c.loop-term.invariant.1
          (wide ∙ c.value_of.ensures ∙ ap value (get_or-take a.n a.terms.now c.loop-term.term-index 0 (omega (arith, length-take a.n a.terms.now)))),
    )

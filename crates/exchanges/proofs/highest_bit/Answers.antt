use mathlib.Core.Path.{◌≡◌, sym, ap, ◌∙◌}
use Prim.Native.Nat.{ℕ, suc, ◌<◌, ◌-◌}
use native.Mathlib.Omega.{arith}
use borrow.Author.Tests.{eq-eqb, ne_eqb}
use Rattle.bits.specs.Digits.{bit}
use Rattle.block.specs.Rows.{highest}
use Rattle.exchanges.proofs.highest_bit.Goals as goal

-- the position below m is the highest where it has a one, and else it does not count
down-yes : (m y : ℕ) → 0 < m → bit y (m - 1) ≡ 1 → m - 1 ≡ highest m y
unfolding highest
down-yes m y h e =
    let d : m ≡ suc (m - 1) = omega arith in
    sym (ap (λ (k : ℕ). highest k y) d ∙ rw (eq-eqb (bit y (m - 1)) 1 e))

down-no : (m y : ℕ) → 0 < m → (bit y (m - 1) ≡ 1 → ⊥) → highest m y ≡ highest (m - 1) y
unfolding highest
down-no m y h n =
    let d : m ≡ suc (m - 1) = omega arith in
    ap (λ (k : ℕ). highest k y) d ∙ rw (ne_eqb (bit y (m - 1)) 1 n)

pub returns-then-bit_of-eq1 : goal.returns-then-bit_of-eq1
returns-then-bit_of-eq1 c = down-yes _ _ (omega arith) (sym c.bit_of.ensures ∙ c.if-bit_of-eq1.true) ∙ c.loop-m.invariant

pub loop-m-preserved : goal.loop-m-preserved
loop-m-preserved c = sym (down-no _ _ (omega arith) (λ e. c.if-bit_of-eq1.false (c.bit_of.ensures ∙ e))) ∙ c.loop-m.invariant

pub returns : goal.returns
unfolding highest
returns c =
    let end : c.loop-m.m ≡ 0 = omega arith in
    sym (ap (λ (m : ℕ). highest m c.args.y) end) ∙ c.loop-m.invariant

-- The number of free inputs of a region: a half has one fewer, the whole space has all n, and a region without a free input has no
-- undecided one. Assumes nothing.
use Rattle.std.specs.Prelude.{◌≡◌, refl, List, ℕ, zero, suc, ◌+◌, ◌^◌, ◌<◌, eqb}
use Rattle.std.proofs.Common.{sym, ◌∙◌, eq-eqb, ne_eqb, pow_pos}
use Rattle.std.proofs.Math.Path.{ap}
use Rattle.std.proofs.lemmas.Bool.{false≢true}
use Rattle.std.proofs.Math.Decide.{ℕ_discrete}
use native.Mathlib.Omega.{arith}
use Rattle.bits.specs.Digits.{bit}
use Rattle.bits.specs.Bit.{bit-lt, bit-xor, bit-none, bit-pow-other}
use Rattle.sums.specs.Sums.{sum, one, count}
use Rattle.sums.specs.Laws.{sum-cong, sum-add, sum_one, sum-suc, sum-zero, count_none}
use Rattle.block.specs.Rows.{half}
use Rattle.block.specs.declared.Row.{Row}
use Rattle.pair_laws.specs.Cube.{Sound}
use Rattle.pair_laws.specs.Theorem.{Every}
use Rattle.step_laws.specs.Shear.{half-fixed, sound-half}
use Rattle.block.specs.Overlaps.{free_inputs, whole_space, cut}
use Rattle.region_laws.specs.Open.{open_inputs, cut-open, cut-free}

module _ (n h d : ℕ) (q : Row) (l : h < n) (free : bit q.mask h ≡ 0) where
  -- the other inputs are free in the half where they were
  other : (i : ℕ) → (i ≡ h → ⊥) → bit (half h d q).mask i ≡ bit q.mask i
  other i e = bit-xor q.mask (2 ^ h) i ∙ rw (bit-pow-other h i e) (omega (arith, bit-lt q.mask i))

  at-input : (i : ℕ) → one (eqb (bit q.mask i) 0) ≡ one (eqb (bit (half h d q).mask i) 0) + one (eqb i h)
  at-input i = go (ℕ_discrete i h)
    where
      go : Dec (i ≡ h) → one (eqb (bit q.mask i) 0) ≡ one (eqb (bit (half h d q).mask i) 0) + one (eqb i h)
      go (yes e) = rw (e, free, half-fixed h d q free, eq-eqb h h refl)
      go (no e) = rw (other i e, ne_eqb i h e) (omega arith)

  -- a half has one free input fewer
  pub free-half : free_inputs n q ≡ suc (free_inputs n (half h d q))
  unfolding free_inputs count
  free-half =
      sum-cong (λ i. one (eqb (bit q.mask i) 0)) (λ i. one (eqb (bit (half h d q).mask i) 0) + one (eqb i h)) n (λ i u. at-input i)
      ∙ sum-add (λ i. one (eqb (bit (half h d q).mask i) 0)) (λ i. one (eqb i h)) n
      ∙ ap (λ (y : ℕ). sum (λ i. one (eqb (bit (half h d q).mask i) 0)) n + y)
      (sum_one (λ i. one (eqb i h)) n h l (λ i u e. ap one (ne_eqb i h e)) ∙ ap one (eq-eqb h h refl))
      ∙ omega arith

-- all inputs are free in the whole space
pub free_all : (n : ℕ) → free_inputs n whole_space ≡ n
unfolding free_inputs count
free_all zero = sum-zero (λ i. one (eqb (bit 0 i) 0))
free_all (suc n) =
    let o : one (eqb (bit 0 n) 0) ≡ 1 = ap one (eq-eqb (bit 0 n) 0 (bit-none 0 n (pow_pos n))) in
    omega (arith, sum-suc (λ i. one (eqb (bit 0 i) 0)) n, free_all n, o)

-- where no input is free none is undecided, so the halving ends
pub free-none : (n : ℕ) (rs : List Row) → Every (Sound n) rs → (q : Row) → Sound n q → free_inputs n q ≡ 0 → open_inputs n rs q ≡ 0
unfolding free_inputs
free-none n rs sound q a z = go (ℕ_discrete (open_inputs n rs q) 0)
  where
    go : Dec (open_inputs n rs q ≡ 0) → open_inputs n rs q ≡ 0
    go (yes e) = e
    go (no e) =
        absurd
        (false≢true
        (sym (count_none (λ i. eqb (bit q.mask i) 0) n z (cut n rs q) (cut-open n rs sound q a e).0)
        ∙ eq-eqb (bit q.mask (cut n rs q)) 0 (cut-free n rs sound q a e)))

-- what a region has wherever its halves have it, each has, by the number of its free inputs
pub by-halves : (n : ℕ) (P : Row → Type 0)
    → ((q : Row) → Sound n q → ((h d : ℕ) → h < n → d < 2 → bit q.mask h ≡ 0 → P (half h d q)) → P q) → (q : Row) → Sound n q → P q
by-halves n P step q a = go (free_inputs n q) q refl a
  where
    go : (f : ℕ) (q : Row) → free_inputs n q ≡ f → Sound n q → P q
    go zero q e a = step q a (λ h d l k free. absurd (omega (arith, free-half n h d q l free, e)))
    go (suc f) q e a =
        step q a (λ h d l k free. go f (half h d q) (omega (arith, free-half n h d q l free, e)) (sound-half n h d q l k a free))

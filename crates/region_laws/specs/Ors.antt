-- Laws of an OR over a range: what it depends on, its size, and its bits. Assumes nothing.
use Rattle.std.specs.Prelude.{◌≡◌, refl, ℕ, zero, suc, ◌+◌, ◌^◌, ◌<◌, max}
use Rattle.std.proofs.Common.{sym, ap, ap₂, ◌∙◌, add-one, arith, pow_pos}
use Rattle.std.proofs.Math.Decide.{dec_lt, ℕ_discrete}
use Rattle.std.specs.Int.Bits.{bit_or, or_zero_l, or_zero_r}
use Rattle.std.proofs.lemmas.Nat.{or_lt}
use Rattle.bits.specs.Digits.{bit}
use Rattle.bits.specs.Bit.{bit-lt, bit-or, bit-none}
use Rattle.block.specs.Overlaps.{ors}

pub ors-zero : (f : ℕ → ℕ) → ors f 0 ≡ 0
unfolding ors
ors-zero f = refl

pub ors-more : (f : ℕ → ℕ) (m : ℕ) → ors f (m + 1) ≡ bit_or (ors f m) (f m)
unfolding ors
ors-more f m = rw (add-one m)

pub ors-cong : (f g : ℕ → ℕ) (m : ℕ) → ((i : ℕ) → i < m → f i ≡ g i) → ors f m ≡ ors g m
unfolding ors
ors-cong f g zero h = refl
ors-cong f g (suc m) h = ap₂ bit_or (ors-cong f g m (λ i l. h i (omega arith))) (h m (omega arith))

pub ors-none : (f : ℕ → ℕ) (m : ℕ) → ((i : ℕ) → i < m → f i ≡ 0) → ors f m ≡ 0
unfolding ors
ors-none f zero h = refl
ors-none f (suc m) h = rw (ors-none f m (λ i l. h i (omega arith)), h m (omega arith))

pub ors-lt : (f : ℕ → ℕ) (k m : ℕ) → ((i : ℕ) → i < m → f i < 2 ^ k) → ors f m < 2 ^ k
unfolding ors
ors-lt f k zero h = pow_pos k
ors-lt f k (suc m) h = or_lt k (ors f m) (f m) (ors-lt f k m (λ i l. h i (omega arith))) (h m (omega arith))

-- the OR has each bit of each number
pub ors-has : (f : ℕ → ℕ) (m h i : ℕ) → i < m → bit (f i) h ≡ 1 → bit (ors f m) h ≡ 1
unfolding ors
ors-has f zero h i l e = absurd (omega arith)
ors-has f (suc m) h i l e = bit-or (ors f m) (f m) h ∙ go (dec_lt i m) (λ b. ors-has f m h i b e)
  where
    go : Dec (i < m) → (i < m → bit (ors f m) h ≡ 1) → max (bit (ors f m) h) (bit (f m) h) ≡ 1
    go (yes b) ih = omega (arith, ih b, bit-lt (f m) h)
    go (no b) ih =
        let d : i ≡ m = omega arith in
        let o : bit (f m) h ≡ 1 = ap (λ (j : ℕ). bit (f j) h) (sym d) ∙ e in
        omega (arith, o, bit-lt (ors f m) h)

-- and no other
pub ors-finds : (f : ℕ → ℕ) (m h : ℕ) → bit (ors f m) h ≡ 1 → (i : ℕ) × (i < m) × (bit (f i) h ≡ 1)
unfolding ors
ors-finds f zero h e = absurd (omega (arith, bit-none 0 h (pow_pos h)))
ors-finds f (suc m) h e = go (ℕ_discrete (bit (f m) h) 1) (λ b. ors-finds f m h b)
  where
    go : Dec (bit (f m) h ≡ 1) → (bit (ors f m) h ≡ 1 → (i : ℕ) × (i < m) × (bit (f i) h ≡ 1)) → (i : ℕ) × (i < suc m) × (bit (f i) h ≡ 1)
    go (yes b) ih = (m, omega arith, b)
    go (no b) ih =
        let w = ih (omega (arith, bit-or (ors f m) (f m) h, e, bit-lt (f m) h, bit-lt (ors f m) h)) in
        (w.0, omega (arith, w.1), w.2)

-- of numbers that are 0 but for one it is that one
pub ors-only : (f : ℕ → ℕ) (m i : ℕ) → i < m → ((j : ℕ) → j < m → (j ≡ i → ⊥) → f j ≡ 0) → ors f m ≡ f i
unfolding ors
ors-only f zero i l h = absurd (omega arith)
ors-only f (suc m) i l h = go (ℕ_discrete m i) (λ u. ors-only f m i u (λ j v. h j (omega arith)))
  where
    go : Dec (m ≡ i) → (i < m → ors f m ≡ f i) → bit_or (ors f m) (f m) ≡ f i
    go (yes e) ih =
        rw (ors-none f m (λ j u. h j (omega arith) (λ d. omega (arith, d, e)))) (or_zero_l (f m) ∙ ap f e)
    go (no e) ih = rw (h m (omega arith) e) (or_zero_r (ors f m) ∙ ih (omega (arith, e)))

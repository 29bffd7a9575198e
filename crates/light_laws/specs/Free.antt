-- Laws of the list of a mask's free inputs: its length, what stands in it, and how a loop over the inputs builds it. Assumes nothing.
use Rattle.std.specs.Prelude.{◌≡◌, refl, List, [], ◌∷◌, ◌++◌, ℕ, zero, suc, ◌+◌, ◌^◌, ◌≤◌, ◌<◌, length}
use Rattle.std.proofs.Common.{append-nil, add-one, arith, eq-eqb, ne_eqb, length-append}
use Rattle.std.proofs.Math.Decide.{dec_lt, ℕ_discrete}
use Rattle.std.proofs.Math.ListN.{get_or-append}
use Rattle.std.proofs.Math.Pow.{pow-lt}
use Rattle.std.proofs.Math.Seq.{get_or-append_seam}
use Rattle.bits.specs.Digits.{bit}
use Rattle.slices.specs.Places.{at}
use Rattle.light_laws.specs.Ways.{frees}

pub frees-zero : (mask : ℕ) → frees mask 0 ≡ []
unfolding frees
frees-zero mask = refl

-- one input more: a free one is put at the end, and a fixed one is not
pub frees-free : (mask n : ℕ) → bit mask n ≡ 0 → frees mask (n + 1) ≡ frees mask n ++ (2 ^ n ∷ [])
unfolding frees
frees-free mask n e = rw (add-one, eq-eqb (bit mask n) 0 e)

pub frees-fixed : (mask n : ℕ) → (bit mask n ≡ 0 → ⊥) → frees mask (n + 1) ≡ frees mask n
unfolding frees
frees-fixed mask n h = rw (add-one, ne_eqb (bit mask n) 0 h) (append-nil (frees mask n))

-- by cases on whether one input more is free
pub frees-by : (P : List ℕ → Type 0) (mask n : ℕ) → ((bit mask n ≡ 0 → ⊥) → P (frees mask n))
    → (bit mask n ≡ 0 → P (frees mask n ++ (2 ^ n ∷ []))) → P (frees mask (suc n))
frees-by P mask n p q = go (ℕ_discrete (bit mask n) 0)
  where
    go : Dec (bit mask n ≡ 0) → P (frees mask (suc n))
    go (yes e) = rw (← add-one n, frees-free mask n e) (q e)
    go (no h) = rw (← add-one n, frees-fixed mask n h) (p h)

pub frees-length : (mask n : ℕ) → length (frees mask n) ≤ n
frees-length mask zero = rw frees-zero (omega arith)
frees-length mask (suc n) =
    frees-by (λ l. length l ≤ suc n) mask n (λ h. omega (arith, frees-length mask n))
    (λ e. omega (arith, frees-length mask n, length-append (frees mask n) (2 ^ n ∷ [])))

pub frees-lt : (mask n i : ℕ) → i < length (frees mask n) → at (frees mask n) i < 2 ^ n
frees-lt mask zero i = rw frees-zero (λ h. absurd (omega arith))
frees-lt mask (suc n) i =
    frees-by (λ l. i < length l → at l i < 2 ^ suc n) mask n (λ f h. omega (arith, frees-lt mask n i h, twice))
    (λ e h. last (λ l. frees-lt mask n i l) h (dec_lt i (length (frees mask n))))
  where
    twice : 2 ^ n < 2 ^ suc n
    twice = pow-lt (omega arith)

    last : (i < length (frees mask n) → at (frees mask n) i < 2 ^ n) → i < length (frees mask n ++ (2 ^ n ∷ []))
        → Dec (i < length (frees mask n)) → at (frees mask n ++ (2 ^ n ∷ [])) i < 2 ^ suc n
    last ih h (yes l) = rw get_or-append (omega (arith, ih l, twice))
    last ih h (no m) = rw (whole, get_or-append_seam) twice
      where
        whole : i ≡ length (frees mask n)
        whole = omega (arith, length-append (frees mask n) (2 ^ n ∷ []))

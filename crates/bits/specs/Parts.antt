-- Laws of the parts of a number f, the numbers with one-bits only where f has them, which are those s with f AND s ≡ s: AND is
-- associative, what it takes from two numbers without a one-bit in common, and which part stands below a part. Assumes nothing.
use Rattle.std.specs.Prelude.{◌≡◌, refl, ℕ, ◌-◌, ◌/◌, ◌%◌, ◌≤◌, ◌<◌, min}
use Rattle.std.proofs.Common.{sym, ap, ◌∙◌, arith}
use Rattle.std.proofs.Math.Decide.{dec_lt}
use Rattle.std.proofs.Math.Arith.{bin_ind}
use Rattle.std.specs.Int.Bits.{bit_and, bit_xor, and_step, and_zero_l, xor_zero_r}
use Rattle.bits.specs.Xor.{dig-ext, and-half, and-odd, and_xor}

pub and_assoc : (a b c : ℕ) → bit_and (bit_and a b) c ≡ bit_and a (bit_and b c)
and_assoc a b c =
    bin_ind (λ (n : ℕ). (b c : ℕ) → bit_and (bit_and n b) c ≡ bit_and n (bit_and b c)) (λ b c. refl)
    (λ n ih b c. dig-ext _ _ (simp and-half (ih (b / 2) (c / 2))) (simp and-odd (omega arith)))
    a b c

-- a part of b has nothing in common with a number that b has nothing in common with
pub and-apart : (a b c : ℕ) → bit_and a b ≡ 0 → bit_and b c ≡ c → bit_and a c ≡ 0
and-apart a b c h e = ap (bit_and a) (sym e) ∙ sym (and_assoc a b c) ∙ ap (λ (x : ℕ). bit_and x c) h ∙ and_zero_l c

-- AND takes the part itself from a part beside something with nothing in common
pub and-beside : (a b c : ℕ) → bit_and a b ≡ b → bit_and a c ≡ 0 → bit_and a (bit_xor b c) ≡ b
and-beside a b c e h = and_xor a b c ∙ rw (e, h) (xor_zero_r b)

-- a part without its lowest bit, and its lowest bit
pub part-half : (f s : ℕ) → bit_and f s ≡ s → bit_and (f / 2) (s / 2) ≡ s / 2
part-half f s e = sym (and-half f s) ∙ ap (λ (x : ℕ). x / 2) e

pub part-odd : (f s : ℕ) → bit_and f s ≡ s → min (f % 2) (s % 2) ≡ s % 2
part-odd f s e = sym (and-odd f s) ∙ ap (λ (x : ℕ). x % 2) e

-- the greatest part of f below its part s is f AND (s - 1)
pub part-below : (f s t : ℕ) → bit_and f s ≡ s → bit_and f t ≡ t → t < s → t ≤ bit_and f (s - 1)
part-below f s t =
    bin_ind (λ (f : ℕ). (s t : ℕ) → bit_and f s ≡ s → bit_and f t ≡ t → t < s → t ≤ bit_and f (s - 1))
    (λ s t e d h. absurd (omega arith)) step
    f s t
  where
    step : (f : ℕ) → ((s t : ℕ) → bit_and (f / 2) s ≡ s → bit_and (f / 2) t ≡ t → t < s → t ≤ bit_and (f / 2) (s - 1))
        → (s t : ℕ) → bit_and f s ≡ s → bit_and f t ≡ t → t < s → t ≤ bit_and f (s - 1)
    step f ih s t e d h = go (dec_lt 0 (s % 2))
      where
        go : Dec (0 < s % 2) → t ≤ bit_and f (s - 1)
        go (yes o) =
            let q : (s - 1) / 2 ≡ s / 2 = omega arith in
            omega (arith, and_step f (s - 1), ap (bit_and (f / 2)) q, part-half f s e)
        go (no o) =
            let q : (s - 1) / 2 ≡ s / 2 - 1 = omega arith in
            omega (
              arith,
              and_step f (s - 1),
              ap (bit_and (f / 2)) q,
              part-odd f t d,
              ih (s / 2) (t / 2) (part-half f s e) (part-half f t d) (omega arith),
            )

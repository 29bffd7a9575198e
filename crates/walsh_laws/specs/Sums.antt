-- Sums of integers with signs, as differences of two sums of natural numbers: those with sign + and those with sign -. Assumes nothing.
use Rattle.std.specs.Prelude.{◌≡◌, refl, cond, ℕ, zero, suc, ◌+◌, ◌*◌, ◌-◌, ◌^◌, ◌<◌, eqb, ℤ, pos, negsuc, neg_ℤ, ◌+ℤ◌, ◌*ℤ◌}
use Rattle.std.proofs.Common.{sym, ap, ap₂, ◌∙◌, arith}
use Rattle.std.specs.Int.Bits.{bit_and}
use Rattle.std.proofs.Math.IntN.{sub_ℕ}
use Rattle.bits.specs.Digits.{parity}
use Rattle.bits.specs.Parity.{parity-lt}
use Rattle.sums.specs.Sums.{sum}
use Rattle.sums.specs.Laws.{sum-zero, sum-suc}
use Rattle.walsh_laws.specs.Differences.{sub_same, sub-pos, sub-add, neg-sub}
use Rattle.walsh_laws.specs.Signs.{even, odd}
use Rattle.walsh_laws.specs.Walsh.{total, sign, walsh, spectrum}

-- the values with sign + and those with sign -
abbrev pub ups : (ℕ → ℕ) → ℕ → ℕ → ℕ
ups f n w = sum (λ x. f x * even w x) (2 ^ n)

abbrev pub downs : (ℕ → ℕ) → ℕ → ℕ → ℕ
downs f n w = sum (λ x. f x * odd w x) (2 ^ n)

-- a sum of differences is the difference of the sums
pub total-sub : (f : ℕ → ℤ) (p q : ℕ → ℕ) (m : ℕ) → ((x : ℕ) → x < m → f x ≡ sub_ℕ (p x) (q x)) → total f m ≡ sub_ℕ (sum p m) (sum q m)
unfolding total
total-sub f p q zero h = rw (sum-zero p, sum-zero q)
total-sub f p q (suc m) h =
    ap₂ ◌+ℤ◌ (total-sub f p q m (λ x b. h x (omega arith))) (h m (omega arith))
    ∙ sub-add (sum p m) (sum q m) (p m) (q m) ∙ rw (sum-suc p m, sum-suc q m)

pub total-cong : (f g : ℕ → ℤ) (m : ℕ) → ((x : ℕ) → x < m → f x ≡ g x) → total f m ≡ total g m
unfolding total
total-cong f g zero h = refl
total-cong f g (suc m) h = ap₂ ◌+ℤ◌ (total-cong f g m (λ x b. h x (omega arith))) (h m (omega arith))

pub walsh-cong : (f g : ℕ → ℤ) (n w : ℕ) → ((x : ℕ) → x < 2 ^ n → f x ≡ g x) → walsh f n w ≡ walsh g n w
unfolding walsh
walsh-cong f g n w h = total-cong _ _ (2 ^ n) (λ x b. ap (λ z. sign w x *ℤ z) (h x b))

-- a difference with a sign, by the parity
times-one : (z : ℤ) → pos 1 *ℤ z ≡ z
times-one (pos a) = ap pos (omega arith)
times-one (negsuc a) = ap (λ (x : ℕ). neg_ℤ (pos x)) whole
  where
    whole : 1 * suc a ≡ suc a
    whole = omega arith

times-minus : (z : ℤ) → negsuc 0 *ℤ z ≡ neg_ℤ z
times-minus (pos a) = ap (λ (x : ℕ). neg_ℤ (pos x)) whole
  where
    whole : 1 * a ≡ a
    whole = omega arith
times-minus (negsuc a) = ap pos (omega arith)

by-parity : (p a b : ℕ) → p < 2 → cond (eqb p 0) (pos 1) (negsuc 0) *ℤ sub_ℕ a b ≡ sub_ℕ (a * (1 - p) + b * p) (a * p + b * (1 - p))
by-parity zero a b h = times-one (sub_ℕ a b) ∙ sub_same a b (a * 1 + b * 0) (a * 0 + b * 1) (omega arith)
by-parity (suc zero) a b h = times-minus (sub_ℕ a b) ∙ neg-sub a b ∙ sub_same b a (a * 0 + b * 1) (a * 1 + b * 0) (omega arith)
by-parity (suc (suc p)) a b h = absurd (omega arith)

pub sign-difference : (w x a b : ℕ) → sign w x *ℤ sub_ℕ a b ≡ sub_ℕ (a * even w x + b * odd w x) (a * odd w x + b * even w x)
unfolding sign even odd
sign-difference w x a b = by-parity (parity (bit_and w x)) a b (parity-lt (bit_and w x))

-- a natural number with a sign
pub sign-natural : (w x a : ℕ) → sign w x *ℤ pos a ≡ sub_ℕ (a * even w x) (a * odd w x)
sign-natural w x a =
    ap (λ z. sign w x *ℤ z) (sym (sub-pos a 0 a (omega arith))) ∙ sign-difference w x a 0
    ∙ sub_same (a * even w x + 0 * odd w x) (a * odd w x + 0 * even w x) (a * even w x) (a * odd w x) (omega arith)

-- the sign itself
pub sign-one : (w x : ℕ) → sign w x ≡ sub_ℕ (even w x) (odd w x)
unfolding sign even odd
sign-one w x = go (parity (bit_and w x)) (parity-lt (bit_and w x))
  where
    go : (p : ℕ) → p < 2 → cond (eqb p 0) (pos 1) (negsuc 0) ≡ sub_ℕ (1 - p) p
    go zero h = refl
    go (suc zero) h = refl
    go (suc (suc p)) h = absurd (omega arith)

-- the spectrum: the values with sign + less those with sign -
pub spectrum-sub : (f : ℕ → ℕ) (n w : ℕ) → spectrum f n w ≡ sub_ℕ (ups f n w) (downs f n w)
unfolding walsh
spectrum-sub f n w = total-sub _ _ _ (2 ^ n) (λ x h. sign-natural w x (f x))

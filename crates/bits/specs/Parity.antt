-- Laws of the parity: of an XOR, and of a matrix row under AND. Assumes nothing.
use Rattle.std.specs.Prelude.{◌≡◌, refl, ℕ, zero, suc, ◌+◌, ◌*◌, ◌/◌, ◌%◌, ◌^◌, ◌<◌}
use Rattle.std.proofs.Common.{sym, ap, ◌∙◌, mul-zero, mul-one, arith, pow_pos}
use Rattle.std.proofs.Math.Arith.{bin_ind}
use Rattle.std.specs.Int.Bits.{bit_and, bit_xor}
use Rattle.std.proofs.lemmas.Nat.{and_comm, ones_cat}
use Rattle.std.specs.Int.Count.{ones, ones_in, ones_step}
use Rattle.bits.specs.Digits.{parity}
use Rattle.bits.specs.Xor.{xor-half, xor-odd, and_xor}

pub parity-step : (n : ℕ) → parity n ≡ (n % 2 + parity (n / 2)) % 2
unfolding parity
parity-step n = omega (arith, ones_step n)

pub parity-lt : (n : ℕ) → parity n < 2
unfolding parity
parity-lt n = omega arith

pub mod2 : (x y : ℕ) → (x % 2 + y % 2) % 2 ≡ (x + y) % 2
mod2 x y = omega arith

par4 : (a b p q : ℕ) → ((a + b) % 2 + (p + q) % 2) % 2 ≡ ((a + p) % 2 + (b + q) % 2) % 2
par4 a b p q = mod2 (a + b) (p + q) ∙ ap (λ (x : ℕ). x % 2) (omega arith) ∙ sym (mod2 (a + p) (b + q))

parity-zero : (b : ℕ) → parity b ≡ (parity 0 + parity b) % 2
unfolding parity ones
parity-zero b = omega arith

pub parity-xor : (a b : ℕ) → parity (bit_xor a b) ≡ (parity a + parity b) % 2
parity-xor a b =
    bin_ind (λ (n : ℕ). (b : ℕ) → parity (bit_xor n b) ≡ (parity n + parity b) % 2) (λ b. parity-zero b)
    (λ n ih b.
    rw (parity-step (bit_xor n b), xor-odd, xor-half, ih (b / 2), parity-step n, parity-step b)
    (par4 (n % 2) (b % 2) (parity (n / 2)) (parity (b / 2))))
    a b

pub parity-and-xor : (a x y : ℕ) → parity (bit_and a (bit_xor x y)) ≡ (parity (bit_and a x) + parity (bit_and a y)) % 2
parity-and-xor a x y = rw and_xor (parity-xor (bit_and a x) (bit_and a y))

pub parity-0 : parity 0 ≡ 0
unfolding parity ones
parity-0 = refl

-- the parity of a matrix row and a digit's multiple
pub parity-times : (u d x : ℕ) → d < 2 → parity (bit_and (u * d) x) ≡ parity (bit_and u x) * d
parity-times u zero x h = rw (mul-zero u, mul-zero (parity (bit_and u x))) parity-0
parity-times u (suc zero) x h = rw (mul-one u, mul-one (parity (bit_and u x)))
parity-times u (suc (suc d)) x h = absurd (omega arith)

pub parity-xor-and : (a b x : ℕ) → parity (bit_and (bit_xor a b) x) ≡ (parity (bit_and a x) + parity (bit_and b x)) % 2
parity-xor-and a b x = rw (and_comm (bit_xor a b) x, and_comm a x, and_comm b x) (parity-and-xor x a b)

-- a power of two has a single one-bit
pub ones-pow : (k : ℕ) → ones (2 ^ k) ≡ 1
unfolding ones ones_in
ones-pow k = ap ones whole ∙ ones_cat k 1 0 (pow_pos k)
  where
    whole : 2 ^ k ≡ 1 * 2 ^ k + 0
    whole = omega arith

-- Laws of single bits: two numbers with equal bits are equal; bits of XOR, AND and OR, of a block of digits, of a digit's multiple and of
-- a power of two. Assumes nothing.
use Rattle.std.specs.Prelude.{◌≡◌, ℕ, zero, suc, ◌+◌, ◌*◌, ◌/◌, ◌%◌, ◌^◌, ◌<◌, min, max}
use Rattle.std.proofs.Common.{sym, ap, ap₂, ◌∙◌, mod-lt, zero-lt-suc, mul-zero, mul-one, one-add, arith, shr-shr, shr_lt, pow_pos}
use Rattle.std.proofs.Math.Decide.{dec_lt}
use Rattle.std.proofs.Math.Nat.{div-eq_of_lt}
use Rattle.std.specs.Int.Bits.{bit_and, bit_or, bit_xor, block_odd, block_half}
use Rattle.std.proofs.lemmas.Nat.{xor_shr, and_shr, or_shr, and_block, and_comm, and_mask}
use Rattle.std.proofs.Math.Pow.{high, pow-lt, split}
use Rattle.bits.specs.Digits.{bit, parity}
use Rattle.bits.specs.Parity.{parity-0, ones-pow}
use Rattle.bits.specs.Xor.{dig-ext, xor-odd, and-odd, or-odd}

pub bit-zero : (x : ℕ) → bit x 0 ≡ x % 2
bit-zero x = omega arith

pub bit-suc : (x i : ℕ) → bit x (suc i) ≡ bit (x / 2) i
bit-suc x i = ap (λ (y : ℕ). y % 2) (ap (λ (k : ℕ). x / 2 ^ k) (sym (one-add i)) ∙ sym (shr-shr x 1 i))

pub bit-ext : (n a b : ℕ) → a < 2 ^ n → b < 2 ^ n → ((i : ℕ) → i < n → bit a i ≡ bit b i) → a ≡ b
bit-ext zero a b ha hb h = omega arith
bit-ext (suc n) a b ha hb h =
    dig-ext a b
    (bit-ext n (a / 2) (b / 2) (omega arith) (omega arith)
    (λ i hi. sym (bit-suc a i) ∙ h (suc i) (omega arith) ∙ bit-suc b i))
    (sym (bit-zero a) ∙ h 0 (omega arith) ∙ bit-zero b)

pub bit-lt : (x i : ℕ) → bit x i < 2
bit-lt x i = mod-lt (x / 2 ^ i) (zero-lt-suc 1)

pub bit-xor : (a b i : ℕ) → bit (bit_xor a b) i ≡ (bit a i + bit b i) % 2
bit-xor a b i = ap (λ (x : ℕ). x % 2) (xor_shr a b i) ∙ xor-odd (a / 2 ^ i) (b / 2 ^ i)

pub bit-and : (a b i : ℕ) → bit (bit_and a b) i ≡ min (bit a i) (bit b i)
bit-and a b i = ap (λ (x : ℕ). x % 2) (and_shr a b i) ∙ and-odd (a / 2 ^ i) (b / 2 ^ i)

pub bit-or : (a b i : ℕ) → bit (bit_or a b) i ≡ max (bit a i) (bit b i)
bit-or a b i = ap (λ (x : ℕ). x % 2) (or_shr a b i) ∙ or-odd (a / 2 ^ i) (b / 2 ^ i)

-- of digits a above n digits r: the low bits are r's, and bit n is a's lowest
pub bit-low : (n i a r : ℕ) → i < n → bit (a * 2 ^ n + r) i ≡ bit r i
bit-low zero i a r h = absurd (omega arith)
bit-low (suc n) zero a r h = bit-zero (a * 2 ^ suc n + r) ∙ block_odd a n r ∙ sym (bit-zero r)
bit-low (suc n) (suc i) a r h =
    bit-suc (a * 2 ^ suc n + r) i ∙ ap (λ (x : ℕ). bit x i) (block_half a n r) ∙ bit-low n i a (r / 2) (omega arith) ∙ sym (bit-suc r i)

pub bit_high : (n a r : ℕ) → r < 2 ^ n → bit (a * 2 ^ n + r) n ≡ a % 2
bit_high n a r h = ap (λ (x : ℕ). x % 2) (high a n h)

pub bit-none : (x i : ℕ) → x < 2 ^ i → bit x i ≡ 0
bit-none x i h = ap (λ (y : ℕ). y % 2) (div-eq_of_lt h)

-- a number times a digit
pub bit-times : (u d i : ℕ) → d < 2 → bit (u * d) i ≡ bit u i * d
bit-times u zero i h = rw (mul-zero u, mul-zero (bit u i)) (bit-none 0 i (pow_pos i))
bit-times u (suc zero) i h = rw (mul-one u, mul-one (bit u i))
bit-times u (suc (suc d)) i h = absurd (omega arith)

-- bits of a power of two
pub bit-pow-same : (k : ℕ) → bit (2 ^ k) k ≡ 1
bit-pow-same k = ap (λ (x : ℕ). bit x k) (omega arith) ∙ bit_high k 1 0 (pow_pos k)

pub bit-pow-other : (k j : ℕ) → (j ≡ k → ⊥) → bit (2 ^ k) j ≡ 0
bit-pow-other k j n = go (dec_lt j k)
  where
    go : Dec (j < k) → bit (2 ^ k) j ≡ 0
    go (yes l) = ap (λ (x : ℕ). bit x j) (omega arith) ∙ bit-low k j 1 0 l ∙ bit-none 0 j (pow_pos j)
    go (no m) = bit-none (2 ^ k) j (pow-lt (omega arith))

-- a single bit under AND
pub and_pow : (k x : ℕ) → bit_and (2 ^ k) x ≡ 2 ^ k * bit x k
and_pow k x =
    ap₂ bit_and whole (sym (split x k))
    ∙ and_block k 1 (x / 2 ^ k) 0 (x % 2 ^ k) (pow_pos k) (mod-lt x (pow_pos k))
    ∙ rw (and_comm 1 (x / 2 ^ k), and_mask (x / 2 ^ k) 1) (omega arith)
  where
    whole : 2 ^ k ≡ 1 * 2 ^ k + 0
    whole = omega arith

-- a digit's multiple stays within the width
pub times-lt : (u d n : ℕ) → d < 2 → u < 2 ^ n → u * d < 2 ^ n
times-lt u zero n h l = omega (arith, pow_pos n)
times-lt u (suc zero) n h l = omega arith
times-lt u (suc (suc d)) n h l = absurd (omega arith)

-- the parity under a single bit is that bit
pub parity-pow : (k x : ℕ) → parity (bit_and (2 ^ k) x) ≡ bit x k
unfolding parity
parity-pow k x = ap parity (and_pow k x) ∙ go (bit x k) (bit-lt x k)
  where
    go : (d : ℕ) → d < 2 → parity (2 ^ k * d) ≡ d
    go zero h = rw mul-zero parity-0
    go (suc zero) h = rw (mul-one, ones-pow k)
    go (suc (suc d)) h = absurd (omega arith)

-- a number below 2^(m + 1) without bit m is below 2^m
pub bit-top : (m y : ℕ) → y < 2 ^ suc m → bit y m ≡ 0 → y < 2 ^ m
bit-top m y h b =
    let two : y / 2 ^ m < 2 = shr_lt 1 m (rw one-add h) in
    let none : y / 2 ^ m ≡ 0 = omega arith in
    omega (arith, rw none at (split y m), mod-lt y (pow_pos m))

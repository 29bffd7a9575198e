-- The signed Walsh transform of 2^n integers, its squares and the autocorrelation (02, Ticket 5; document 004, section 2.2). Not here:
-- laws (`Theorems`, `Bounds`). Assumes nothing.
use Rattle.std.specs.Prelude.{cond, ℕ, zero, suc, ◌*◌, ◌^◌, eqb, ℤ, pos, negsuc, nat_abs, ◌+ℤ◌, ◌*ℤ◌}
use Rattle.std.specs.Int.Bits.{bit_and, bit_xor}
use Rattle.bits.specs.Digits.{parity}
use Rattle.sums.specs.Sums.{sum}

-- f 0 + f 1 + .. + f (m - 1), of integers
unfoldable pub total : (ℕ → ℤ) → ℕ → ℤ
total f zero = pos 0
total f (suc m) = total f m +ℤ f m

-- the sign of x at the frequency w: 1 where w AND x has an even number of one-bits, and else -1
unfoldable pub sign : ℕ → ℕ → ℤ
sign w x = cond (eqb (parity (bit_and w x)) 0) (pos 1) (negsuc 0)

-- the transform at the frequency w: the sum of all values, each with its sign
unfoldable pub walsh : (ℕ → ℤ) → ℕ → ℕ → ℤ
walsh f n w = total (λ x. sign w x *ℤ f x) (2 ^ n)

-- the spectrum of natural numbers, which both transforms of the Wiener-Khinchin theorem take: its transform
abbrev pub spectrum : (ℕ → ℕ) → ℕ → ℕ → ℤ
spectrum f n = walsh (λ x. pos (f x)) n

-- the squares of the spectrum
abbrev pub power : (ℕ → ℕ) → ℕ → ℕ → ℕ
power f n w = nat_abs (spectrum f n w) * nat_abs (spectrum f n w)

-- the autocorrelation
unfoldable pub auto : (ℕ → ℕ) → ℕ → ℕ → ℕ
auto f n t = sum (λ x. f x * f (bit_xor x t)) (2 ^ n)

-- the points that a table may have (01: 12 inputs), and their square, which no number of either transform is above
abbrev pub most_points : ℕ
most_points = 4096

abbrev pub most_number : ℕ
most_number = 16777216

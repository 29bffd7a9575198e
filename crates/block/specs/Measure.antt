-- The total autocorrelation and the measure of a block (01, The measure). Not here: its value by pairs of rows, which is a law.
-- Assumes nothing.
use Rattle.std.specs.Prelude.{Bool, not, ◌&&◌, ℕ, ◌^◌, eqb}
use Rattle.std.specs.Int.Bits.{bit_xor}
use Rattle.sums.specs.Sums.{sum, count}
use Rattle.block.specs.Words.{none}

-- the block f has an output at x
abbrev pub driven : (ℕ → ℕ) → ℕ → Bool
driven f x = not (eqb (f x) none)

-- x and x XOR t both have an output, and the two words are equal
unfoldable pub same : (ℕ → ℕ) → ℕ → ℕ → Bool
same f t x = driven f x && (driven f (bit_xor x t) && eqb (f x) (f (bit_xor x t)))

-- R(t) of a block with n inputs: how many points x have that
unfoldable pub shift : (ℕ → ℕ) → ℕ → ℕ → ℕ
shift f n t = count (same f t) (2 ^ n)

-- the measure of a block: the sum of R at 1, 2, 4, .. 2^(n-1)
unfoldable pub measure : (ℕ → ℕ) → ℕ → ℕ
measure f n = sum (λ i. shift f n (2 ^ i)) n

-- What a single bit and a parity are. The number of one-bits is the kit's `ones`, and XOR and AND are its `bit_xor` and `bit_and`.
-- Not here: laws (`Xor`, `Parity`, `Bit`). Assumes nothing.
use Rattle.std.specs.Prelude.{ℕ, ◌/◌, ◌%◌, ◌^◌}
use Rattle.std.specs.Int.Count.{ones}

-- bit i of x, 0 or 1: bit 0 is the lowest (01, Words and numbers)
abbrev pub bit : ℕ → ℕ → ℕ
bit x i = x / 2 ^ i % 2

-- 1 where x has an odd number of one-bits, and else 0
unfoldable pub parity : ℕ → ℕ
parity x = ones x % 2

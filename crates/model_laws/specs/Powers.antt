-- The powers of two that stand for the outputs of a word: the next one, and a bound. Assumes nothing.
use Rattle.std.specs.Prelude.{◌≡◌, ℕ, ◌+◌, ◌*◌, ◌^◌, ◌≤◌, ◌<◌}
use Rattle.std.proofs.Common.{add-one, arith, pow_mono}

pub power-more : (j : ℕ) → 2 ^ j * 2 ≡ 2 ^ (j + 1)
power-more j = rw (add-one j) (omega arith)

pub power_le : (j : ℕ) → j < 15 → 2 ^ j ≤ 16384
power_le j h = pow_mono {i = j} {j = 14} (omega arith)

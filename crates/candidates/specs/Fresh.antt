-- Whether a matrix sends a number to something at position k or above, by the parities of its rows from k on. Assumes nothing.
use Rattle.std.specs.Prelude.{◌≡◌, true, false, ℕ, ◌+◌, ◌*◌, ◌^◌, ◌≤◌, ◌<◌, leb}
use Rattle.std.proofs.Common.{◌∙◌, zero-mul, add-zero, arith}
use Rattle.std.proofs.Math.Path.{ap}
use Rattle.std.proofs.Math.Nat.{one-mul}
use borrow.Author.Tests.{le-leb, lt-leb}
use Rattle.std.specs.Int.Bits.{bit_and}
use Rattle.std.proofs.Math.Pow.{pow_mono}
use Rattle.bits.specs.Digits.{parity}
use Rattle.sums.specs.Laws.{sum_mono}
use Rattle.block.specs.Basis.{apply}
use Rattle.matrix_laws.specs.Linear.{apply-more, apply-lt}

module _ (s : ℕ → ℕ) (n k x : ℕ) where
  -- nothing so far at position k or above
  pub fresh_start : apply s k x < 2 ^ k
  fresh_start = apply-lt s k x

  -- nor at position j
  pub fresh-next : (j : ℕ) → apply s j x < 2 ^ k → parity (bit_and (s j) x) ≡ 0 → apply s (j + 1) x < 2 ^ k
  fresh-next j h e = rw (apply-more s j x, e, zero-mul, add-zero) h

  -- a one-bit at position j
  pub fresh-found : (j : ℕ) → k ≤ j → j < n → parity (bit_and (s j) x) ≡ 1 → leb (2 ^ k) (apply s n x) ≡ true
  unfolding apply
  fresh-found j low high e =
      let more : apply s (j + 1) x ≡ apply s j x + 2 ^ j =
      apply-more s j x ∙ ap (λ (i : ℕ). apply s j x + i) (ap (λ (i : ℕ). i * 2 ^ j) e ∙ one-mul (2 ^ j)) in
      let longer : apply s (j + 1) x ≤ apply s n x = sum_mono (λ j. parity (bit_and (s j) x) * 2 ^ j) (j + 1) n (omega arith) in
      le-leb (2 ^ k) (apply s n x) (omega (arith, pow_mono low, more, longer))

  pub fresh-none : apply s n x < 2 ^ k → leb (2 ^ k) (apply s n x) ≡ false
  fresh-none h = lt-leb (2 ^ k) (apply s n x) h

-- The digits from a place on: what so many of them spell, and that the first byte that is none ends the number. Assumes nothing.
use Rattle.std.specs.Prelude.{◌≡◌, true, false, List, ℕ, ◌+◌, ◌-◌, ◌*◌, ◌^◌, ◌≤◌, ◌<◌, length}
use Rattle.std.proofs.Math.Path.{sym, ap}
use Rattle.std.proofs.Common.{◌∙◌, arith}
use Rattle.std.proofs.Math.Bool.{not}
use Rattle.slices.specs.Places.{at}
use Rattle.slices.specs.Least.{first-is}
use Rattle.slices.specs.Filled.{length-tab, tab-at, tab-zero, tab-suc}
use Rattle.block.specs.Text.{is_digit, spelled, value_of}
use Rattle.read_laws.specs.Tests.{every-all}
use Rattle.read_laws.specs.Spelled.{spelled-last}
use Rattle.read_laws.specs.Numerals.{value-lt}
use Rattle.read_laws.specs.ByPlace.{digits_at, bytes_at, ended_of, number_at}

module _ (s : List ℕ) (from : ℕ) where
  -- the first `count` bytes are digits
  abbrev pub AllDigits : ℕ → Type 0
  AllDigits count = (j : ℕ) → j < count → is_digit (at s (from + j)) ≡ true

  pub value_none : 0 ≡ value_of (bytes_at s from 0)
  unfolding spelled
  value_none = sym (ap value_of (tab-zero (λ i. at s (from + i))))

  pub value-more : (count : ℕ) → value_of (bytes_at s from count) * 10 + (at s (from + count) - 48) ≡ value_of (bytes_at s from (count + 1))
  value-more count =
      sym (ap value_of (ap (bytes_at s from) (omega arith) ∙ tab-suc count (λ i. at s (from + i)))
      ∙ spelled-last 10 (λ b. b - 48) 0 (bytes_at s from count) (at s (from + count)))

  pub value-below : (most count : ℕ) → count ≤ most → AllDigits count → value_of (bytes_at s from count) < 10 ^ most
  value-below most count h d =
      let n : length (bytes_at s from count) ≡ count = length-tab count (λ i. at s (from + i)) in
      value-lt most (bytes_at s from count) (omega arith)
      (every-all is_digit (bytes_at s from count)
      (λ i l. let b : i < count = omega arith in ap is_digit (tab-at count (λ i. at s (from + i)) 0 i b) ∙ d i b))

  -- so many digits, and then a byte that is none or the most that there can be
  pub number-ends : (most count : ℕ) → count ≤ most → AllDigits count → (count < most → is_digit (at s (from + count)) ≡ false)
      → ended_of count (value_of (bytes_at s from count)) (at s from) (at s (from + count)) ≡ number_at s from most
  unfolding number_at digits_at
  number-ends most count h d e =
      ap (λ (i : ℕ). ended_of i (value_of (bytes_at s from i)) (at s from) (at s (from + i)))
      (sym (first-is most (λ i. not (is_digit (at s (from + i)))) count h (λ j l. ap not (d j l)) (λ l. ap not (e l))))

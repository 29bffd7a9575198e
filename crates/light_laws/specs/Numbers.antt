-- How many numbers of n digits are light: as many as there are choices of at most w among the digits. Assumes nothing.
use Rattle.std.specs.Prelude.{◌≡◌, Bool, ℕ, zero, suc, ◌+◌, ◌*◌, ◌^◌, ◌<◌, leb}
use Rattle.std.proofs.Common.{ap, ap₂, ◌∙◌, one-add, arith, le-leb}
use Rattle.std.proofs.Math.Decide.{dec_lt}
use Rattle.std.proofs.lemmas.Bool.{lt-leb}
use Rattle.std.specs.Int.Count.{ones}
use Rattle.std.proofs.lemmas.Nat.{ones_cat}
use Rattle.sums.specs.Sums.{sum, one, count}
use Rattle.sums.specs.Laws.{sum-split, sum-cong, sum-none}
use Rattle.light_laws.specs.Counted.{choices, choices-flat}

-- t has at most w one-bits
abbrev pub within : ℕ → ℕ → Bool
within w t = leb (ones t) w

-- a number with the bit above its n bits has one one-bit more
ones-top : (n i : ℕ) → i < 2 ^ n → ones (2 ^ n + i) ≡ suc (ones i)
unfolding ones
ones-top n i h =
    let e : 2 ^ n + i ≡ 1 * 2 ^ n + i = omega arith in
    ap ones e ∙ ones_cat n 1 i h ∙ one-add (ones i)

within_none : (n i : ℕ) → i < 2 ^ n → one (within 0 (2 ^ n + i)) ≡ 0
within_none n i h = rw (ones-top n i h, lt-leb (suc (ones i)) 0 (omega arith))

within_more : (w n i : ℕ) → i < 2 ^ n → one (within (suc w) (2 ^ n + i)) ≡ one (within w i)
within_more w n i h = rw (ones-top n i h) (go (dec_lt w (ones i)))
  where
    go : Dec (w < ones i) → one (leb (suc (ones i)) (suc w)) ≡ one (leb (ones i) w)
    go (yes l) = rw (lt-leb (ones i) w l, lt-leb (suc (ones i)) (suc w) (omega arith))
    go (no n) = rw (le-leb (ones i) w (omega arith), le-leb (suc (ones i)) (suc w) (omega arith))

-- by the highest digit
pub light-count : (n w : ℕ) → count (within w) (2 ^ n) ≡ choices w n
unfolding count choices sum ones
light-count zero w = rw (le-leb 0 w (omega arith))
light-count (suc n) zero =
    let d : 2 ^ suc n ≡ 2 ^ n + 2 ^ n = omega arith in
    ap (sum (λ t. one (within 0 t))) d
    ∙ sum-split (λ t. one (within 0 t)) (2 ^ n) (2 ^ n)
    ∙ rw (sum-none (λ i. one (within 0 (2 ^ n + i))) (2 ^ n) (within_none n)) (omega (arith, light-count n zero, choices-flat n))
light-count (suc n) (suc w) =
    let d : 2 ^ suc n ≡ 2 ^ n + 2 ^ n = omega arith in
    ap (sum (λ t. one (within (suc w) t))) d
    ∙ sum-split (λ t. one (within (suc w) t)) (2 ^ n) (2 ^ n)
    ∙ ap₂ ◌+◌ (light-count n (suc w))
    (sum-cong (λ i. one (within (suc w) (2 ^ n + i))) (λ i. one (within w i)) (2 ^ n) (within_more w n) ∙ light-count n w)

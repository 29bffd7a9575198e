-- Laws of the stages: the first is the values, each next one is made by butterflies, the last is the transform; and each number at each
-- stage is at most the sum of all the values. Assumes nothing.
use Rattle.std.specs.Prelude.{◌≡◌, ℕ, suc, ◌+◌, ◌*◌, ◌^◌, ◌≤◌, ◌<◌, ℤ, pos, nat_abs, ◌+ℤ◌, ◌-ℤ◌}
use Rattle.std.proofs.Common.{sym, ap, ap₂, ◌∙◌, arith}
use Rattle.std.proofs.Math.IntN.{sub_ℕ}
use Rattle.sums.specs.Sums.{sum}
use Rattle.sums.specs.Laws.{sum-cong, sum-add, sum-split, sum_mono}
use Rattle.walsh_laws.specs.Differences.{sub-pos, sub-add, sub-sub, sub-abs}
use Rattle.walsh_laws.specs.Signs.{even, odd, even_odd, even-zero, odd-zero, even-comm, odd-comm, odd-top, even-top, odd-tops, even-tops}
use Rattle.walsh_laws.specs.Walsh.{spectrum}
use Rattle.walsh_laws.specs.Sums.{spectrum-sub}

-- the values with sign + and those with sign -, in block a of 2^i values, for the frequency r
unfoldable pub plus : (ℕ → ℕ) → ℕ → ℕ → ℕ → ℕ
plus f i a r = sum (λ y. f (a * 2 ^ i + y) * even r y) (2 ^ i)

unfoldable pub minus : (ℕ → ℕ) → ℕ → ℕ → ℕ → ℕ
minus f i a r = sum (λ y. f (a * 2 ^ i + y) * odd r y) (2 ^ i)

-- the spectrum of block a of 2^i values, at the frequency r: what the butterflies have there after i stages
unfoldable pub part : (ℕ → ℕ) → ℕ → ℕ → ℕ → ℤ
part f i a r = sub_ℕ (plus f i a r) (minus f i a r)

pub part-first : (f : ℕ → ℕ) (a : ℕ) → part f 0 a 0 ≡ pos (f a)
unfolding part plus minus sum
part-first f a =
    sub-pos (0 + f (a * 2 ^ 0 + 0) * even 0 0) (0 + f (a * 2 ^ 0 + 0) * odd 0 0) (f a) (rw (even-zero 0, odd-zero 0) (omega (arith, ap f whole)))
  where
    whole : a * 1 + 0 ≡ a
    whole = omega arith

pub part-last : (f : ℕ → ℕ) (n w : ℕ) → part f n 0 w ≡ spectrum f n w
unfolding part plus minus
part-last f n w =
    ap₂ sub_ℕ (sum-cong _ _ (2 ^ n) (λ y h. ap (λ (x : ℕ). f x * even w y) (whole y)))
    (sum-cong _ _ (2 ^ n) (λ y h. ap (λ (x : ℕ). f x * odd w y) (whole y)))
    ∙ sym (spectrum-sub f n w)
  where
    whole : (y : ℕ) → 0 * 2 ^ n + y ≡ y
    whole y = omega arith

-- the second half of a block of twice the size
top : (f : ℕ → ℕ) (i a : ℕ) (g : ℕ → ℕ) → sum (λ y. f (a * 2 ^ suc i + y) * g y) (2 ^ suc i)
    ≡ sum (λ y. f (a * 2 * 2 ^ i + y) * g y) (2 ^ i) + sum (λ y. f ((a * 2 + 1) * 2 ^ i + y) * g (2 ^ i + y)) (2 ^ i)
top f i a g =
    ap (sum (λ y. f (a * 2 ^ suc i + y) * g y)) twice ∙ sum-split (λ y. f (a * 2 ^ suc i + y) * g y) (2 ^ i) (2 ^ i)
    ∙ ap₂ ◌+◌ (sum-cong _ _ (2 ^ i) (λ y h. ap (λ (x : ℕ). f x * g y) (first y)))
    (sum-cong _ _ (2 ^ i) (λ y h. ap (λ (x : ℕ). f x * g (2 ^ i + y)) (second y)))
  where
    twice : 2 ^ suc i ≡ 2 ^ i + 2 ^ i
    twice = omega arith

    first : (y : ℕ) → a * 2 ^ suc i + y ≡ a * 2 * 2 ^ i + y
    first y = omega (arith, ap (λ (x : ℕ). a * x) twice)

    second : (y : ℕ) → a * 2 ^ suc i + (2 ^ i + y) ≡ (a * 2 + 1) * 2 ^ i + y
    second y = omega (arith, ap (λ (x : ℕ). a * x) twice)

-- the two results of a butterfly
pub part_low : (f : ℕ → ℕ) (i a r : ℕ) → r < 2 ^ i → part f (suc i) a r ≡ part f i (a * 2) r +ℤ part f i (a * 2 + 1) r
unfolding part plus minus
part_low f i a r h =
    ap₂ sub_ℕ
    (top f i a (even r) ∙ ap (λ (x : ℕ). plus f i (a * 2) r + x) (sum-cong _ _ (2 ^ i) (λ y k. ap (λ (x : ℕ). f ((a * 2 + 1) * 2 ^ i + y) * x) (even-top i r y h k))))
    (top f i a (odd r) ∙ ap (λ (x : ℕ). minus f i (a * 2) r + x) (sum-cong _ _ (2 ^ i) (λ y k. ap (λ (x : ℕ). f ((a * 2 + 1) * 2 ^ i + y) * x) (odd-top i r y h k))))
    ∙ sym (sub-add (plus f i (a * 2) r) (minus f i (a * 2) r) (plus f i (a * 2 + 1) r) (minus f i (a * 2 + 1) r))

pub part-high : (f : ℕ → ℕ) (i a r : ℕ) → r < 2 ^ i → part f (suc i) a (2 ^ i + r) ≡ part f i (a * 2) r -ℤ part f i (a * 2 + 1) r
unfolding part plus minus
part-high f i a r h =
    ap₂ sub_ℕ
    (top f i a (even (2 ^ i + r))
    ∙ ap₂ ◌+◌ (sum-cong _ _ (2 ^ i) (λ y k. ap (λ (x : ℕ). f (a * 2 * 2 ^ i + y) * x) (even-comm (2 ^ i + r) y ∙ even-top i y r k h ∙ even-comm y r)))
    (sum-cong _ _ (2 ^ i) (λ y k. ap (λ (x : ℕ). f ((a * 2 + 1) * 2 ^ i + y) * x) (even-tops i r y h k))))
    (top f i a (odd (2 ^ i + r))
    ∙ ap₂ ◌+◌ (sum-cong _ _ (2 ^ i) (λ y k. ap (λ (x : ℕ). f (a * 2 * 2 ^ i + y) * x) (odd-comm (2 ^ i + r) y ∙ odd-top i y r k h ∙ odd-comm y r)))
    (sum-cong _ _ (2 ^ i) (λ y k. ap (λ (x : ℕ). f ((a * 2 + 1) * 2 ^ i + y) * x) (odd-tops i r y h k))))
    ∙ sym (sub-sub (plus f i (a * 2) r) (minus f i (a * 2) r) (plus f i (a * 2 + 1) r) (minus f i (a * 2 + 1) r))

-- two stages: the four quarters of a block of four times the size
module _ (f : ℕ → ℕ) (i a r : ℕ) (h : r < 2 ^ i) where
  pub part-quarter-1 : part f (suc (suc i)) a r
      ≡ (part f i (a * 2 * 2) r +ℤ part f i (a * 2 * 2 + 1) r) +ℤ (part f i ((a * 2 + 1) * 2) r +ℤ part f i ((a * 2 + 1) * 2 + 1) r)
  part-quarter-1 = part_low f (suc i) a r (omega arith) ∙ ap₂ ◌+ℤ◌ (part_low f i (a * 2) r h) (part_low f i (a * 2 + 1) r h)

  pub part-quarter-2 : part f (suc (suc i)) a (2 ^ i + r)
      ≡ (part f i (a * 2 * 2) r -ℤ part f i (a * 2 * 2 + 1) r) +ℤ (part f i ((a * 2 + 1) * 2) r -ℤ part f i ((a * 2 + 1) * 2 + 1) r)
  part-quarter-2 = part_low f (suc i) a (2 ^ i + r) (omega arith) ∙ ap₂ ◌+ℤ◌ (part-high f i (a * 2) r h) (part-high f i (a * 2 + 1) r h)

  pub part-quarter-3 : part f (suc (suc i)) a (2 ^ suc i + r)
      ≡ (part f i (a * 2 * 2) r +ℤ part f i (a * 2 * 2 + 1) r) -ℤ (part f i ((a * 2 + 1) * 2) r +ℤ part f i ((a * 2 + 1) * 2 + 1) r)
  part-quarter-3 = part-high f (suc i) a r (omega arith) ∙ ap₂ ◌-ℤ◌ (part_low f i (a * 2) r h) (part_low f i (a * 2 + 1) r h)

  pub part-quarter-4 : part f (suc (suc i)) a (2 ^ suc i + (2 ^ i + r))
      ≡ (part f i (a * 2 * 2) r -ℤ part f i (a * 2 * 2 + 1) r) -ℤ (part f i ((a * 2 + 1) * 2) r -ℤ part f i ((a * 2 + 1) * 2 + 1) r)
  part-quarter-4 = part-high f (suc i) a (2 ^ i + r) (omega arith) ∙ ap₂ ◌-ℤ◌ (part-high f i (a * 2) r h) (part-high f i (a * 2 + 1) r h)

-- the two signs' values together are the block's
both : (f : ℕ → ℕ) (i a r : ℕ) → plus f i a r + minus f i a r ≡ sum (λ y. f (a * 2 ^ i + y)) (2 ^ i)
unfolding plus minus
both f i a r =
    sym (sum-add (λ y. f (a * 2 ^ i + y) * even r y) (λ y. f (a * 2 ^ i + y) * odd r y) (2 ^ i))
    ∙ sum-cong _ _ (2 ^ i) (λ y h. omega (arith, ap (λ (x : ℕ). f (a * 2 ^ i + y) * x) (even_odd r y)))

-- each number of each stage is within the sum of all the values
pub part-bound : (f : ℕ → ℕ) (i a r m : ℕ) → a * 2 ^ i + 2 ^ i ≤ m → nat_abs (part f i a r) ≤ sum f m
unfolding part
part-bound f i a r m h =
    omega (
      arith,
      sub-abs (plus f i a r) (minus f i a r),
      both f i a r,
      sum-split f (a * 2 ^ i) (2 ^ i),
      sum_mono f (a * 2 ^ i + 2 ^ i) m h,
    )

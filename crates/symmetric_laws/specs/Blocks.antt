-- Symmetric blocks: R is equal at all numbers with as many one-bits, and no greater at one one-bit than at two; the measures of the
-- block and of its smaller block by the Gray matrix, in closed form, and the second is not below the first. Not here: the words of a
-- symmetric table (`Words`). Assumes nothing.
use Rattle.std.specs.Prelude.{◌≡◌, refl, List, get_or}
use Rattle.std.proofs.Math.Path.{sym, ap}
use Rattle.std.proofs.Common.{ap₂, ◌∙◌, one-add, add-one, pow_mono}
use Prim.Native.Nat.{ℕ, zero, suc, ◌+◌, ◌-◌, ◌*◌, ◌^◌, ◌≤◌, ◌<◌}
use native.Mathlib.Omega.{arith}
use Rattle.std.specs.Int.Bits.{bit_xor}
use Rattle.std.proofs.lemmas.Nat.{xor_lt, ones-le, ones_cat}
use Rattle.std.specs.Int.Count.{ones, ones_in, ones-ones}
use Rattle.std.proofs.Math.Pow.{pow_pos, pow-lt}
use Rattle.bits.specs.Parity.{ones-pow}
use Rattle.sums.specs.Sums.{sum, count}
use Rattle.sums.specs.Laws.{sum-split, sum-cong, sum-const, sum-terms}
use Rattle.block.specs.Words.{none}
use Rattle.block.specs.Measure.{same, shift, measure}
use Rattle.block.specs.Basis.{smaller}
use Rattle.matrix_laws.specs.Smaller.{measure-smaller}
use Rattle.block.specs.Symmetric.{of_counts, gray_column, least_of, Symmetric}
use Rattle.symmetric_laws.specs.Columns.{gray-independent, column-lt}
use Rattle.symmetric_laws.specs.Weights.{changed, weighed, sum-weighed, folded, weighed-folded, equal, weighed-one-two}

-- the least number with c one-bits is one of n inputs
pub least_lt : (n c : ℕ) → c ≤ n → least_of c < 2 ^ n
least_lt n c h = omega (arith, pow_mono h, pow_pos c)

-- a block of words is symmetric
pub counts-symmetric : (words : List ℕ) (n : ℕ) → Symmetric (of_counts words) n
counts-symmetric words n x y hx hy e = rw e

-- one-bits of the columns
pub ones-three : (j : ℕ) → ones (gray_column (suc j)) ≡ 2
unfolding gray_column ones ones_in
ones-three j =
    let e : 3 * 2 ^ j ≡ 3 * 2 ^ j + 0 = omega arith in
    ap ones e ∙ ones_cat j 3 0 (pow_pos j)

pub ones-first : ones (gray_column 0) ≡ 1
unfolding gray_column ones ones_in
ones-first = refl

sum_first : (f : ℕ → ℕ) → sum f 1 ≡ f 0
unfolding sum
sum_first f = omega arith

column-first : gray_column 0 ≡ 1
unfolding gray_column
column-first = refl

column-second : gray_column 1 ≡ 3
unfolding gray_column
column-second = refl

-- R of a block of words from the words alone, at a number of one one-bit and at one of two
module _ (words : List ℕ) where
  -- the word for c one-bits
  abbrev pub word_for : ℕ → ℕ
  word_for c = get_or words c none

  shift-counts : (n t : ℕ) → t < 2 ^ n → shift (of_counts words) n t ≡ weighed (equal word_for) n (ones t)
  unfolding shift count same
  shift-counts n t h = sum-weighed (equal word_for) n t h

  pub shift_one : (m : ℕ) → shift (of_counts words) (m + 1) 1 ≡ folded (λ c. changed (equal word_for) c c) m 0
  unfolding weighed
  shift_one m =
      let b : 1 < 2 ^ suc m = omega (arith, pow_pos m) in
      rw (add-one m)
      (shift-counts (suc m) 1 b ∙ ap (weighed (equal word_for) (suc m)) (ones-pow 0)
      ∙ weighed-folded (changed (equal word_for)) m)

  pub shift_two : (m : ℕ) → shift (of_counts words) (m + 2) 3 ≡ folded (λ c. changed (changed (equal word_for)) c c) m 0
  unfolding weighed
  shift_two m =
      let e : m + 2 ≡ suc (suc m) = omega arith in
      let b : 3 < 2 ^ suc (suc m) = omega (arith, pow_pos m) in
      rw e
      (shift-counts (suc (suc m)) 3 b ∙ ap (weighed (equal word_for) (suc (suc m))) (sym (ap ones column-second) ∙ ones-three 0)
      ∙ weighed-folded (changed (changed (equal word_for))) m)

module _ (f : ℕ → ℕ) (n : ℕ) (s : Symmetric f n) where
  least : (x : ℕ) → x < 2 ^ n → f x ≡ f (least_of (ones x))
  least x h = s x (least_of (ones x)) h (least_lt n (ones x) (ones-le n x h)) (sym (ones-ones (ones x)))

  -- R, by the number of one-bits of t
  pub shift-weighed : (t : ℕ) → t < 2 ^ n → shift f n t ≡ weighed (equal (λ c. f (least_of c))) n (ones t)
  unfolding shift count same
  shift-weighed t h =
      sum-cong _ (λ x. equal (λ c. f (least_of c)) (ones x) (ones (bit_xor x t))) (2 ^ n)
      (λ x l. rw (least x l, least (bit_xor x t) (xor_lt n x t l h)))
      ∙ sum-weighed (equal (λ c. f (least_of c))) n t h

  -- R is equal at all numbers with as many one-bits
  pub shift-weight : (t u : ℕ) → t < 2 ^ n → u < 2 ^ n → ones t ≡ ones u → shift f n t ≡ shift f n u
  shift-weight t u ht hu e =
      shift-weighed t ht ∙ ap (weighed (equal (λ c. f (least_of c))) n) e ∙ sym (shift-weighed u hu)

  -- at one one-bit it is no greater than at two
  pub shift-one-two : (t u : ℕ) → t < 2 ^ n → u < 2 ^ n → ones t ≡ 1 → ones u ≡ 2 → shift f n t ≤ shift f n u
  shift-one-two t u ht hu e d =
      omega (
        arith,
        shift-weighed t ht ∙ ap (weighed (equal (λ c. f (least_of c))) n) e,
        shift-weighed u hu ∙ ap (weighed (equal (λ c. f (least_of c))) n) d,
        weighed-one-two (λ c. f (least_of c)) n (omega (arith, ones-le n u hu)),
      )

  -- the measure of the block
  pub measure-symmetric : 1 ≤ n → measure f n ≡ n * shift f n 1
  unfolding measure
  measure-symmetric h =
      sum-cong (λ i. shift f n (2 ^ i)) (λ _. shift f n 1) n
      (λ i l. shift-weight (2 ^ i) 1 (pow-lt l) (pow-lt h) (ones-pow i ∙ sym (ones-pow 0)))
      ∙ sum-const (shift f n 1) n

  -- the measure of its smaller block is the sum of R at the Gray columns
  pub gray-sum : measure (smaller f gray_column n) n ≡ sum (λ j. shift f n (gray_column j)) n
  gray-sum = measure-smaller f gray_column n (gray-independent n)

  column-below : (j : ℕ) → j < n → gray_column j < 2 ^ n
  column-below j l = omega (arith, column-lt j, pow_mono l)

  -- in closed form: R at 1, and R at 3 for each other column
  pub measure-gray : 1 ≤ n → measure (smaller f gray_column n) n ≡ shift f n 1 + (n - 1) * shift f n 3
  measure-gray h =
      let w : n ≡ 1 + (n - 1) = omega arith in
      gray-sum
      ∙ ap (sum (λ j. shift f n (gray_column j))) w
      ∙ sum-split (λ j. shift f n (gray_column j)) 1 (n - 1)
      ∙ ap₂ ◌+◌ first others
    where
      first : sum (λ j. shift f n (gray_column j)) 1 ≡ shift f n 1
      first = sum_first (λ j. shift f n (gray_column j)) ∙ ap (shift f n) column-first

      others : sum (λ j. shift f n (gray_column (1 + j))) (n - 1) ≡ (n - 1) * shift f n 3
      others =
          sum-cong (λ j. shift f n (gray_column (1 + j))) (λ _. shift f n 3) (n - 1)
          (λ j l.
          let b : gray_column (suc j) < 2 ^ n = column-below (suc j) (omega arith) in
          let c : 3 < 2 ^ n = omega (arith, column-second, column-below 1 (omega arith)) in
          rw (one-add j) (shift-weight (gray_column (suc j)) 3 b c (ones-three j ∙ sym (sym (ap ones column-second) ∙ ones-three 0))))
          ∙ sum-const (shift f n 3) (n - 1)

  -- the second measure is not below the first
  pub gray-not-below : measure f n ≤ measure (smaller f gray_column n) n
  unfolding measure
  gray-not-below = rw gray-sum (sum-terms (λ i. shift f n (2 ^ i)) (λ j. shift f n (gray_column j)) n go)
    where
      go : (j : ℕ) → j < n → shift f n (2 ^ j) ≤ shift f n (gray_column j)
      go zero l = rw (shift-weight (2 ^ 0) (gray_column 0) (pow-lt l) (column-below 0 l) (ones-pow 0 ∙ sym ones-first)) (omega arith)
      go (suc j) l = shift-one-two (2 ^ suc j) (gray_column (suc j)) (pow-lt l) (column-below (suc j) l) (ones-pow (suc j)) (ones-three j)

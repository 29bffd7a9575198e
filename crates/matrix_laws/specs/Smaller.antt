-- R and the measure go by a block's points alone. The smaller block (01, The basis and the matrix): its R at z is R of the block at T z, and
-- its measure is the sum of R at the columns of T. Not here: its rows. Assumes nothing.
use Rattle.std.specs.Prelude.{◌≡◌, ℕ, ◌^◌, ◌<◌}
use Rattle.std.proofs.Math.Path.{ap}
use Rattle.std.proofs.Common.{◌∙◌, arith}
use Rattle.std.specs.Int.Bits.{bit_xor}
use Rattle.std.proofs.lemmas.Nat.{xor_lt}
use Rattle.std.proofs.Math.Pow.{pow-lt}
use Rattle.sums.specs.Sums.{sum, one, count}
use Rattle.sums.specs.Laws.{sum-cong, sum_moved, count-cong}
use Rattle.block.specs.Measure.{same, shift, measure}
use Rattle.block.specs.Basis.{columns, smaller}
use Rattle.block.specs.Rows.{reached}
use Rattle.matrix_laws.specs.Linear.{columns-lt, columns-xor, columns-unit}
use Rattle.matrix_laws.specs.Reached.{Independent, reaches}
use Rattle.matrix_laws.specs.Inverse.{reached-columns, columns-reached}

-- R goes by the block's points alone
pub shift-points : (f g : ℕ → ℕ) (n t : ℕ) → t < 2 ^ n → ((x : ℕ) → x < 2 ^ n → f x ≡ g x) → shift f n t ≡ shift g n t
unfolding shift same
shift-points f g n t h e = count-cong (same f t) (same g t) (2 ^ n) (λ x l. rw (e x l, e (bit_xor x t) (xor_lt n x t l h)))

-- and so does the measure
pub measure-points : (f g : ℕ → ℕ) (n : ℕ) → ((x : ℕ) → x < 2 ^ n → f x ≡ g x) → measure f n ≡ measure g n
unfolding measure
measure-points f g n e = sum-cong _ _ n (λ i h. shift-points f g n (2 ^ i) (pow-lt h) e)

-- at z and x the smaller block is the same where the block is at T z and T x
same-smaller : (f c : ℕ → ℕ) (n z x : ℕ) → same (smaller f c n) z x ≡ same f (columns c n z) (columns c n x)
unfolding same
same-smaller f c n z x = rw (columns-xor c n x z)

module _ (f c : ℕ → ℕ) (n : ℕ) (i : Independent c n n) where
  -- its R at z is R of the block at T z
  pub shift-smaller : (z : ℕ) → shift (smaller f c n) n z ≡ shift f n (columns c n z)
  unfolding shift count
  shift-smaller z =
      count-cong (same (smaller f c n) z) (λ x. same f (columns c n z) (columns c n x)) (2 ^ n) (λ x l. same-smaller f c n z x)
      ∙ sum_moved (λ x. one (same f (columns c n z) x)) (columns c n) (reached n c n) (2 ^ n)
      (λ x l. columns-lt c n n x i.below) (reaches n c n (omega arith) i).keeps
      (reached-columns c n i) (columns-reached c n i)

  -- its measure is the sum of R of the block at the columns of T
  pub measure-smaller : measure (smaller f c n) n ≡ sum (λ j. shift f n (c j)) n
  unfolding measure
  measure-smaller =
      sum-cong (λ j. shift (smaller f c n) n (2 ^ j)) (λ j. shift f n (c j)) n
      (λ j l. shift-smaller (2 ^ j) ∙ ap (shift f n) (columns-unit c n j l))

-- Demand 2, the blocks: the original block at any input equals the smaller table at the transformed input; the smaller table at z is
-- the block at T z; R and the measure of the smaller block. For any block f with n inputs, and any weight limit w from 1 on.
-- Assumes nothing.
use Rattle.std.specs.Prelude.{◌≡◌, ℕ, ◌^◌, ◌≤◌, ◌<◌, length}
use Rattle.std.proofs.Math.Path.{sym}
use Rattle.std.proofs.Common.{ap, ◌∙◌}
use Rattle.slices.specs.Places.{at}
use Rattle.slices.specs.Filled.{tab-at, length-tab}
use Rattle.sums.specs.Sums.{sum}
use Rattle.block.specs.Words.{none, of_table}
use Rattle.block.specs.Measure.{shift, measure}
use Rattle.block.specs.Basis.{columns, apply, basis_of, sigma_of, smaller_of}
use Rattle.block.specs.Tables.{smaller_table}
use Rattle.matrix_laws.specs.Linear.{apply-lt}
use Rattle.matrix_laws.specs.Candidate.{basis-independent}
use Rattle.matrix_laws.specs.Smaller.{shift-points, measure-points, shift-smaller, measure-smaller}
use Rattle.demands.specs.Matrix.{basis-after-sigma}

module _ (f : ℕ → ℕ) (n w : ℕ) where
  -- the smaller table at z is the block at T z
  pub smaller-at : (z : ℕ) → z < 2 ^ n → of_table (smaller_table f n w) z ≡ f (columns (at (basis_of f n w)) n z)
  unfolding smaller_table smaller_of
  smaller-at z h = tab-at (2 ^ n) _ none z h

  pub smaller-length : length (smaller_table f n w) ≡ 2 ^ n
  unfolding smaller_table
  smaller-length = length-tab (2 ^ n) _

  module _ (hw : 1 ≤ w) where
    -- the block at x is the smaller table at sigma x
    pub block_at : (x : ℕ) → x < 2 ^ n → of_table (smaller_table f n w) (apply (at (sigma_of f n w)) n x) ≡ f x
    block_at x h = smaller-at (apply (at (sigma_of f n w)) n x) (apply-lt (at (sigma_of f n w)) n x) ∙ ap f (basis-after-sigma f n w hw x h)

    -- R of the smaller table at z is R of the block at T z
    pub smaller-shift : (z : ℕ) → z < 2 ^ n → shift (of_table (smaller_table f n w)) n z ≡ shift f n (columns (at (basis_of f n w)) n z)
    unfolding smaller_of
    smaller-shift z h =
        shift-points (of_table (smaller_table f n w)) (smaller_of f n w) n z h smaller-at
        ∙ shift-smaller f (at (basis_of f n w)) n (basis-independent f n w hw) z

    -- the second measure is the sum of R at the chosen numbers ..
    pub second-measure : measure (smaller_of f n w) n ≡ sum (λ i. shift f n (at (basis_of f n w) i)) n
    unfolding smaller_of
    second-measure = measure-smaller f (at (basis_of f n w)) n (basis-independent f n w hw)

    -- .. and the smaller table's own measure
    pub second-measure-own : measure (smaller_of f n w) n ≡ measure (of_table (smaller_table f n w)) n
    unfolding smaller_of
    second-measure-own = sym (measure-points (of_table (smaller_table f n w)) (smaller_of f n w) n smaller-at)

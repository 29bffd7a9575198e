-- The smaller rows of a list (01, How rows are transformed): the numbers that the rule takes make n steps, so the rows after any of
-- them stay disjoint and never grow fewer, and the smaller rows are the smaller block: at sigma x they are the list at x, and at z
-- the list at T z. All of it whatever word m a missing point has. Assumes nothing.
use Rattle.std.specs.Prelude.{◌≡◌, false, List, length}
use Rattle.std.proofs.Common.{sym, ◌∙◌, arith}
use Rattle.std.proofs.Math.Path.{ap}
use Prim.Native.Nat.{ℕ, ◌^◌, ◌≤◌, ◌<◌}
use Rattle.slices.specs.Places.{at}
use Rattle.block.specs.Words.{of_rows}
use Rattle.block.specs.Basis.{columns, apply, basis_of, sigma_of, smaller_of}
use Rattle.block.specs.Rows.{moved}
use Rattle.block.specs.Refusals.{bad_row}
use Rattle.block.specs.Lists.{rows_after, smaller_list}
use Rattle.block.specs.declared.Row.{Row}
use Rattle.pair_laws.specs.Cube.{Sound}
use Rattle.pair_laws.specs.Theorem.{Every, Disjoint}
use Rattle.matrix_laws.specs.Linear.{columns-lt}
use Rattle.matrix_laws.specs.Candidate.{basis-independent}
use Rattle.matrix_laws.specs.Inverse.{sigma-reached, sigma-columns}
use Rattle.step_laws.specs.Moved.{Steps, steps, moved_length, moved_word, moved-good, moved-disjoint}

-- the numbers that the rule takes make n steps
pub basis-steps : (f : ℕ → ℕ) (n w : ℕ) → 1 ≤ w → Steps n (at (basis_of f n w)) n
basis-steps f n w h = steps n (at (basis_of f n w)) n (omega arith) (basis-independent f n w h)

-- the smaller rows are no fewer than the rows
pub smaller-length : (m n w : ℕ) (rs : List Row) → length rs ≤ length (smaller_list m n w rs)
unfolding smaller_list rows_after moved
smaller-length m n w rs = moved_length n (at (basis_of (of_rows m rs) n w)) 0 n rs (omega arith)

module _ (m n w : ℕ) (hw : 1 ≤ w) (rs : List Row) where
  after : (i : ℕ) → i ≤ n → Steps n (at (basis_of (of_rows m rs) n w)) i
  after i h j l = basis-steps (of_rows m rs) n w hw j (omega arith)

  -- rows stay disjoint
  pub rows-after-disjoint : (i : ℕ) → i ≤ n → Disjoint n rs → Disjoint n (rows_after m n w i rs)
  unfolding rows_after
  rows-after-disjoint i h d = moved-disjoint n (at (basis_of (of_rows m rs) n w)) i (after i h) rs d

  -- no row becomes malformed
  pub rows-after-good : (i : ℕ) → i ≤ n → (outs : ℕ) → Every (λ r. bad_row n outs r ≡ false) rs
      → Every (λ r. bad_row n outs r ≡ false) (rows_after m n w i rs)
  unfolding rows_after
  rows-after-good i h outs g = moved-good n (at (basis_of (of_rows m rs) n w)) i (after i h) outs rs g

  -- the smaller rows are disjoint
  pub smaller-disjoint : Disjoint n rs → Disjoint n (smaller_list m n w rs)
  unfolding smaller_list
  smaller-disjoint d = rows-after-disjoint n (omega arith) d

  -- and well formed
  pub smaller-good : (outs : ℕ) → Every (λ r. bad_row n outs r ≡ false) rs → Every (λ r. bad_row n outs r ≡ false) (smaller_list m n w rs)
  unfolding smaller_list
  smaller-good outs g = rows-after-good n (omega arith) outs g

  -- at sigma x they are the list at x
  pub smaller-word : Every (Sound n) rs → (x : ℕ) → x < 2 ^ n
      → of_rows m (smaller_list m n w rs) (apply (at (sigma_of (of_rows m rs) n w)) n x) ≡ of_rows m rs x
  unfolding smaller_list rows_after sigma_of
  smaller-word s x h =
      let c : ℕ → ℕ = at (basis_of (of_rows m rs) n w) in
      ap (of_rows m (moved n c n rs)) (sigma-reached c n (basis-independent (of_rows m rs) n w hw) x h)
      ∙ moved_word n c n (basis-steps (of_rows m rs) n w hw) m rs x s h

  -- at z they are the list at T z, the smaller block
  pub smaller-rows : Every (Sound n) rs → (z : ℕ) → z < 2 ^ n → of_rows m (smaller_list m n w rs) z ≡ smaller_of (of_rows m rs) n w z
  unfolding smaller_of sigma_of
  smaller-rows s z h =
      let c : ℕ → ℕ = at (basis_of (of_rows m rs) n w) in
      let i = basis-independent (of_rows m rs) n w hw in
      ap (of_rows m (smaller_list m n w rs)) (sym (sigma-columns c n i z h))
      ∙ smaller-word s (columns c n z) (columns-lt c n n z i.below)

-- The restored table, read through the columns of sigma. Assumes nothing.
use Rattle.std.specs.Prelude.{◌≡◌, ℕ, ◌^◌, ◌<◌}
use Rattle.std.proofs.Math.Path.{ap}
use Rattle.std.proofs.Common.{◌∙◌}
use mathlib.Core.List.{List}
use Rattle.slices.specs.Places.{at, tab, over}
use Rattle.slices.specs.Filled.{over-at, tab-cong}
use Rattle.block.specs.Words.{of_table}
use Rattle.block.specs.Basis.{apply, columns}
use Rattle.block.specs.Tables.{restored}
use Rattle.matrix_laws.specs.Linear.{apply-lt, columns-cong}
use Rattle.matrix_laws.specs.Images.{apply-columns}

-- the columns of the matrix with rows s lie at the front of c
module _ (n : ℕ) (s c c₀ : List ℕ) (e : c ≡ over (tab n (λ j. apply (at s) n (2 ^ j))) c₀) where
  laid : (j : ℕ) → j < n → at c j ≡ apply (at s) n (2 ^ j)
  laid j h = ap (λ (l : List ℕ). at l j) e ∙ over-at n (λ j. apply (at s) n (2 ^ j)) c₀ 0 j h

  pub laid-lt : (j : ℕ) → j < n → at c j < 2 ^ n
  laid-lt j h = rw (laid j h) (apply-lt (at s) n (2 ^ j))

  -- the table read through them is the restored table
  pub restored-through : (table z z' : List ℕ) → z' ≡ over (tab (2 ^ n) (λ x. of_table table (columns (at c) n x))) z
      → z' ≡ over (restored n s table) z
  unfolding restored
  restored-through table z z' d =
      d
      ∙ ap (λ (l : List ℕ). over l z)
      (tab-cong (2 ^ n) _ _
      (λ x h.
      ap (of_table table)
      (columns-cong (at c) (λ j. apply (at s) n (2 ^ j)) n x laid ∙ apply-columns (at s) n x h)))

-- The promises of the operations on lists of rows, which are rs, of type y. Assumes nothing.
use Rattle.std.specs.Prelude.{◌≡◌, List, ℕ, length}
use Rattle.block.specs.Words.{missing, of_rows}
use Rattle.block.specs.Basis.{basis_of, sigma_of}
use Rattle.block.specs.Refusals.{stored}
use Rattle.block.specs.Lists.{row_value, row_method_verdict, row_method, smaller_list, fill_verdict, filled}
use Rattle.block.specs.declared.Row.{Row}
use Rattle.block.specs.declared.Answer.{Answer}
use Rattle.block.specs.declared.ValueAnswer.{ValueAnswer}
use Rattle.block.specs.declared.RowMethodAnswer.{RowMethodAnswer}
use Rattle.promises.specs.Lent.{Lent}

-- a single shift value
pub record RowValuePromise (n k y t : ℕ) (rs : List Row) (r : ValueAnswer) : Type 0 where
  pub answer : r ≡ row_value n k y t rs

-- the row method; the smaller rows go to lent room
module _ (n k y w : ℕ) (rs : List Row) (lent : Lent) (basis₀ sigma₀ : List ℕ) where
  abbrev method_verdict : Answer
  method_verdict = row_method_verdict n k y w rs (length basis₀) (length sigma₀) lent.room

  pub record RowMethodPromise (r : RowMethodAnswer) (basis₁ sigma₁ : List ℕ) : Type 0 where
    pub answer : r ≡ row_method n k y w rs (length basis₀) (length sigma₀) lent.room
    pub basis : basis₁ ≡ stored method_verdict (basis_of (of_rows (missing y) rs) n w) basis₀
    pub sigma : sigma₁ ≡ stored method_verdict (sigma_of (of_rows (missing y) rs) n w) sigma₀
    pub smaller : lent.holds method_verdict (smaller_list (missing y) n w rs)

-- filling a table
pub record FillPromise (n k y : ℕ) (rs : List Row) (table₀ : List ℕ) (r : Answer) (table₁ : List ℕ) : Type 0 where
  pub answer : r ≡ fill_verdict n k y rs (length table₀)
  pub table : table₁ ≡ stored (fill_verdict n k y rs (length table₀)) (filled (missing y) n rs) table₀

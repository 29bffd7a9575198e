-- The promises of the operations on tables, of type y. Assumes nothing.
use Rattle.std.specs.Prelude.{◌≡◌, List, ℕ, ℤ, length}
use Rattle.block.specs.Words.{of_table}
use Rattle.block.specs.Basis.{basis_of, sigma_of}
use Rattle.block.specs.Refusals.{stored}
use Rattle.block.specs.Tables.{
  table_value,
  table_method_verdict,
  table_method,
  smaller_table,
  restore_verdict,
  restored,
  spectrum_verdict,
  shift_values,
  working_end,
}
use Rattle.block.specs.declared.Answer.{Answer}
use Rattle.block.specs.declared.ValueAnswer.{ValueAnswer}
use Rattle.block.specs.declared.TableMethodAnswer.{TableMethodAnswer}

-- a single shift value
pub record TableValuePromise (n k y t : ℕ) (table : List ℕ) (r : ValueAnswer) : Type 0 where
  pub answer : r ≡ table_value n k y t table

-- the table method
module _ (n k y w : ℕ) (table basis₀ sigma₀ smaller₀ : List ℕ) where
  abbrev method_verdict : Answer
  method_verdict = table_method_verdict n k y w table (length basis₀) (length sigma₀) (length smaller₀)

  pub record TableMethodPromise (r : TableMethodAnswer) (basis₁ sigma₁ smaller₁ : List ℕ) : Type 0 where
    pub answer : r ≡ table_method n k y w table (length basis₀) (length sigma₀) (length smaller₀)
    pub basis : basis₁ ≡ stored method_verdict (basis_of (of_table table) n w) basis₀
    pub sigma : sigma₁ ≡ stored method_verdict (sigma_of (of_table table) n w) sigma₀
    pub smaller : smaller₁ ≡ stored method_verdict (smaller_table (of_table table) n w) smaller₀

-- restoring a table
pub record RestorePromise (n k y : ℕ) (sigma smaller table₀ : List ℕ) (r : Answer) (table₁ : List ℕ) : Type 0 where
  pub answer : r ≡ restore_verdict n k y sigma smaller (length table₀)
  pub table : table₁ ≡ stored (restore_verdict n k y sigma smaller (length table₀)) (restored n sigma smaller) table₀

-- R at every t, by the spectrum
module _ (n k y : ℕ) (table values₀ : List ℕ) (working₀ : List ℤ) where
  abbrev spectral_verdict : Answer
  spectral_verdict = spectrum_verdict n k y table (length values₀) (length working₀)

  pub record SpectrumPromise (r : Answer) (values₁ : List ℕ) (working₁ : List ℤ) : Type 0 where
    pub answer : r ≡ spectral_verdict
    pub values : values₁ ≡ stored spectral_verdict (shift_values (of_table table) n) values₀
    pub working : working₁ ≡ stored spectral_verdict (working_end n) working₀

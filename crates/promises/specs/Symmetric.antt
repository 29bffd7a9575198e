-- The promises of the operations on symmetric blocks, of type y. Assumes nothing.
use Rattle.std.specs.Prelude.{◌≡◌, List, ℕ, length}
use Rattle.block.specs.Refusals.{stored}
use Rattle.block.specs.Symmetric.{symmetric_table, gray_table, symmetric_verdict, symmetric_block, table_symmetric}
use Rattle.block.specs.declared.Answer.{Answer}
use Rattle.block.specs.declared.ValueAnswer.{ValueAnswer}
use Rattle.block.specs.declared.TableMethodAnswer.{TableMethodAnswer}

-- the symmetric block of these words
module _ (n k y : ℕ) (words table₀ smaller₀ : List ℕ) where
  abbrev words_verdict : Answer
  words_verdict = symmetric_verdict n k y words (length table₀) (length smaller₀)

  pub record SymmetricBlockPromise (r : TableMethodAnswer) (table₁ smaller₁ : List ℕ) : Type 0 where
    pub answer : r ≡ symmetric_block n k y words (length table₀) (length smaller₀)
    pub table : table₁ ≡ stored words_verdict (symmetric_table words n) table₀
    pub smaller : smaller₁ ≡ stored words_verdict (gray_table words n) smaller₀

-- whether a table is symmetric
pub record TableSymmetricPromise (n k y : ℕ) (table : List ℕ) (r : ValueAnswer) : Type 0 where
  pub answer : r ≡ table_symmetric n k y table

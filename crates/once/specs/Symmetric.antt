-- The operations on symmetric blocks: each promise leaves one answer. Assumes nothing.
use Rattle.std.specs.Prelude.{◌≡◌, List, ℕ}
use Rattle.block.specs.declared.ValueAnswer.{ValueAnswer}
use Rattle.block.specs.declared.TableMethodAnswer.{TableMethodAnswer}
use Rattle.promises.specs.Symmetric.{SymmetricBlockPromise, TableSymmetricPromise}
use Rattle.once.specs.Law.{one}

pub symmetric-block-once : {n k y : ℕ} {words table₀ smaller₀ : List ℕ} {r s : TableMethodAnswer} {table₁ smaller₁ table₂ smaller₂ : List ℕ}
    → SymmetricBlockPromise n k y words table₀ smaller₀ r table₁ smaller₁ → SymmetricBlockPromise n k y words table₀ smaller₀ s table₂ smaller₂
    → (r ≡ s) × (table₁ ≡ table₂) × (smaller₁ ≡ smaller₂)
symmetric-block-once p q = (one p.answer q.answer, one p.table q.table, one p.smaller q.smaller)

pub table-symmetric-once : {n k y : ℕ} {table : List ℕ} {r s : ValueAnswer} → TableSymmetricPromise n k y table r
    → TableSymmetricPromise n k y table s → r ≡ s
table-symmetric-once p q = one p.answer q.answer

-- The operations on tables: each promise leaves one answer. Assumes nothing.
use Rattle.std.specs.Prelude.{◌≡◌, List, ℕ, ℤ}
use Rattle.block.specs.declared.Answer.{Answer}
use Rattle.block.specs.declared.ValueAnswer.{ValueAnswer}
use Rattle.block.specs.declared.TableMethodAnswer.{TableMethodAnswer}
use Rattle.promises.specs.Tables.{TableValuePromise, TableMethodPromise, RestorePromise, SpectrumPromise}
use Rattle.once.specs.Law.{one}

pub table-value-once : {n k y t : ℕ} {table : List ℕ} {r s : ValueAnswer} → TableValuePromise n k y t table r → TableValuePromise n k y t table s
    → r ≡ s
table-value-once p q = one p.answer q.answer

pub table-method-once : {n k y w : ℕ} {table basis₀ sigma₀ smaller₀ : List ℕ} {r s : TableMethodAnswer}
    {basis₁ sigma₁ smaller₁ basis₂ sigma₂ smaller₂ : List ℕ}
    → TableMethodPromise n k y w table basis₀ sigma₀ smaller₀ r basis₁ sigma₁ smaller₁
    → TableMethodPromise n k y w table basis₀ sigma₀ smaller₀ s basis₂ sigma₂ smaller₂
    → (r ≡ s) × (basis₁ ≡ basis₂) × (sigma₁ ≡ sigma₂) × (smaller₁ ≡ smaller₂)
table-method-once p q = (
  one p.answer q.answer,
  one p.basis q.basis,
  one p.sigma q.sigma,
  one p.smaller q.smaller,
)

pub restore-once : {n k y : ℕ} {sigma smaller table₀ : List ℕ} {r s : Answer} {table₁ table₂ : List ℕ}
    → RestorePromise n k y sigma smaller table₀ r table₁ → RestorePromise n k y sigma smaller table₀ s table₂ → (r ≡ s) × (table₁ ≡ table₂)
restore-once p q = (one p.answer q.answer, one p.table q.table)

pub spectrum-once : {n k y : ℕ} {table values₀ : List ℕ} {working₀ : List ℤ} {r s : Answer} {values₁ values₂ : List ℕ} {working₁ working₂ : List ℤ}
    → SpectrumPromise n k y table values₀ working₀ r values₁ working₁ → SpectrumPromise n k y table values₀ working₀ s values₂ working₂
    → (r ≡ s) × (values₁ ≡ values₂) × (working₁ ≡ working₂)
spectrum-once p q = (one p.answer q.answer, one p.values q.values, one p.working q.working)

-- The operations on lists of rows: each promise leaves one answer. Where the smaller rows go to lent room, the law is one over the form of
-- that room, and then it is said of records and of three flat slices. Assumes nothing.
use Rattle.std.specs.Prelude.{◌≡◌, List, ℕ}
use Rattle.block.specs.declared.Row.{Row}
use Rattle.block.specs.declared.Answer.{Answer}
use Rattle.block.specs.declared.ValueAnswer.{ValueAnswer}
use Rattle.block.specs.declared.RowMethodAnswer.{RowMethodAnswer}
use Rattle.promises.specs.Lent.{lent_records, lent_flat}
use Rattle.promises.specs.Lists.{RowValuePromise, RowMethodPromise, FillPromise}
use Rattle.once.specs.Law.{one, Alike, records-alike, flat-alike}

pub row-value-once : {n k y t : ℕ} {rs : List Row} {r s : ValueAnswer} → RowValuePromise n k y t rs r → RowValuePromise n k y t rs s → r ≡ s
row-value-once p q = one p.answer q.answer

pub fill-once : {n k y : ℕ} {rs : List Row} {table₀ : List ℕ} {r s : Answer} {table₁ table₂ : List ℕ}
    → FillPromise n k y rs table₀ r table₁ → FillPromise n k y rs table₀ s table₂ → (r ≡ s) × (table₁ ≡ table₂)
fill-once p q = (one p.answer q.answer, one p.table q.table)

module _ {n k y w : ℕ} {rs : List Row} {basis₀ sigma₀ : List ℕ} {r s : RowMethodAnswer} {basis₁ sigma₁ basis₂ sigma₂ : List ℕ} where
  pub row-method-once : {room : ℕ} {holds₁ holds₂ : Answer → List Row → Type 0} {E : Type 0} → Alike holds₁ holds₂ E
      → RowMethodPromise n k y w rs (record { room = room; holds = holds₁ }) basis₀ sigma₀ r basis₁ sigma₁
      → RowMethodPromise n k y w rs (record { room = room; holds = holds₂ }) basis₀ sigma₀ s basis₂ sigma₂
      → (r ≡ s) × (basis₁ ≡ basis₂) × (sigma₁ ≡ sigma₂) × E
  row-method-once alike p q = (
    one p.answer q.answer,
    one p.basis q.basis,
    one p.sigma q.sigma,
    alike _ _ p.smaller q.smaller,
  )

  pub row-method-once-records : (smaller₀ : List Row) {smaller₁ smaller₂ : List Row}
      → RowMethodPromise n k y w rs (lent_records smaller₀ smaller₁) basis₀ sigma₀ r basis₁ sigma₁
      → RowMethodPromise n k y w rs (lent_records smaller₀ smaller₂) basis₀ sigma₀ s basis₂ sigma₂
      → (r ≡ s) × (basis₁ ≡ basis₂) × (sigma₁ ≡ sigma₂) × (smaller₁ ≡ smaller₂)
  row-method-once-records smaller₀ = row-method-once (records-alike smaller₀)

  pub row-method-once-flat : {masks₀ values₀ words₀ masks₁ values₁ words₁ masks₂ values₂ words₂ : List ℕ}
      → RowMethodPromise n k y w rs (lent_flat masks₀ values₀ words₀ masks₁ values₁ words₁) basis₀ sigma₀ r basis₁ sigma₁
      → RowMethodPromise n k y w rs (lent_flat masks₀ values₀ words₀ masks₂ values₂ words₂) basis₀ sigma₀ s basis₂ sigma₂
      → (r ≡ s) × (basis₁ ≡ basis₂) × (sigma₁ ≡ sigma₂) × ((masks₁ ≡ masks₂) × (values₁ ≡ values₂) × (words₁ ≡ words₂))
  row-method-once-flat = row-method-once flat-alike

-- Joining: the promise leaves one answer, and one content of the list's storage, as records and in three flat slices; and so does that of what
-- the program prints. Assumes nothing.
use Rattle.std.specs.Prelude.{◌≡◌, List, ℕ}
use Rattle.block.specs.declared.Row.{Row}
use Rattle.block.specs.declared.Answer.{Answer}
use Rattle.block.specs.declared.JoinAnswer.{JoinAnswer}
use Rattle.promises.specs.Lent.{lent_records, lent_flat}
use Rattle.promises.specs.Joins.{JoinPromise, PrintJoinPromise}
use Rattle.once.specs.Law.{one, Alike, records-alike, flat-alike}

module _ {n k : ℕ} {rs : List Row} {r s : JoinAnswer} where
  pub join-once : {room : ℕ} {holds₁ holds₂ : Answer → List Row → Type 0} {E : Type 0} → Alike holds₁ holds₂ E
      → JoinPromise n k rs (record { room = room; holds = holds₁ }) r → JoinPromise n k rs (record { room = room; holds = holds₂ }) s
      → (r ≡ s) × E
  join-once alike p q = (one p.answer q.answer, alike _ _ p.rows q.rows)

  pub join-once-records : (rows₀ : List Row) {rows₁ rows₂ : List Row} → JoinPromise n k rs (lent_records rows₀ rows₁) r
      → JoinPromise n k rs (lent_records rows₀ rows₂) s → (r ≡ s) × (rows₁ ≡ rows₂)
  join-once-records rows₀ = join-once (records-alike rows₀)

  pub join-once-flat : {masks₀ values₀ words₀ masks₁ values₁ words₁ masks₂ values₂ words₂ : List ℕ}
      → JoinPromise n k rs (lent_flat masks₀ values₀ words₀ masks₁ values₁ words₁) r
      → JoinPromise n k rs (lent_flat masks₀ values₀ words₀ masks₂ values₂ words₂) s
      → (r ≡ s) × ((masks₁ ≡ masks₂) × (values₁ ≡ values₂) × (words₁ ≡ words₂))
  join-once-flat = join-once flat-alike

pub print-join-once : {input out₀ : List ℕ} {count₁ count₂ : ℕ} {out₁ out₂ : List ℕ} → PrintJoinPromise input out₀ count₁ out₁
    → PrintJoinPromise input out₀ count₂ out₂ → (count₁ ≡ count₂) × (out₁ ≡ out₂)
print-join-once p q = (one p.bytes q.bytes, one p.text q.text)

-- Row text, written and read: each promise leaves one answer. The reader's promise gives the numbers of its answer; equal numbers are equal
-- answers. Where the rows of a text go to lent room, the law is one over the form of that room, and then it is said of records and of
-- three flat slices. Assumes nothing.
use Rattle.std.specs.Prelude.{◌≡◌, List, ℕ, Result}
use Rattle.block.specs.Text.{numbers}
use Rattle.block.specs.declared.Row.{Row}
use Rattle.block.specs.declared.Answer.{Answer}
use Rattle.block.specs.declared.TextAnswer.{TextAnswer}
use Rattle.block.specs.declared.Headings.{Headings}
use Rattle.block.specs.declared.Refusal.{Refusal}
use Rattle.block.specs.declared.ReadAnswer.{ReadAnswer}
use Rattle.text_theorems.specs.Unique.{numbers-one}
use Rattle.promises.specs.Lent.{lent_records, lent_flat}
use Rattle.promises.specs.Texts.{WritePromise, ReadPromise}
use Rattle.once.specs.Law.{one, Alike, records-alike, flat-alike}

pub write-once : {n k y z : ℕ} {rs : List Row} {out₀ : List ℕ} {r s : TextAnswer} {out₁ out₂ : List ℕ} → WritePromise n k y z rs out₀ r out₁
    → WritePromise n k y z rs out₀ s out₂ → (r ≡ s) × (out₁ ≡ out₂)
write-once p q = (one p.answer q.answer, one p.text q.text)

-- ---- reading, with an answer in numbers, and with an answer that has those numbers

module _ {text : List ℕ} {room : ℕ} {holds₁ holds₂ : Answer → List Row → Type 0} {E : Type 0} where
  pub read-numbers-once : {r s : ReadAnswer} → Alike holds₁ holds₂ E → ReadPromise text (record { room = room; holds = holds₁ }) r
      → ReadPromise text (record { room = room; holds = holds₂ }) s → (r ≡ s) × E
  read-numbers-once alike p q = (one p.answer q.answer, alike _ _ p.rows q.rows)

  pub read-once : {r s : Result Headings Refusal} → Alike holds₁ holds₂ E → ReadPromise text (record { room = room; holds = holds₁ }) (numbers r)
      → ReadPromise text (record { room = room; holds = holds₂ }) (numbers s) → (r ≡ s) × E
  read-once {r = r} {s = s} alike p q = (numbers-one r s (one p.answer q.answer), alike _ _ p.rows q.rows)

module _ {text : List ℕ} (rows₀ : List Row) {rows₁ rows₂ : List Row} where
  pub read-once-records : {r s : Result Headings Refusal} → ReadPromise text (lent_records rows₀ rows₁) (numbers r)
      → ReadPromise text (lent_records rows₀ rows₂) (numbers s) → (r ≡ s) × (rows₁ ≡ rows₂)
  read-once-records = read-once (records-alike rows₀)

  pub read-numbers-once-records : {r s : ReadAnswer} → ReadPromise text (lent_records rows₀ rows₁) r
      → ReadPromise text (lent_records rows₀ rows₂) s → (r ≡ s) × (rows₁ ≡ rows₂)
  read-numbers-once-records = read-numbers-once (records-alike rows₀)

module _ {text masks₀ values₀ words₀ masks₁ values₁ words₁ masks₂ values₂ words₂ : List ℕ} where
  pub read-once-flat : {r s : Result Headings Refusal} → ReadPromise text (lent_flat masks₀ values₀ words₀ masks₁ values₁ words₁) (numbers r)
      → ReadPromise text (lent_flat masks₀ values₀ words₀ masks₂ values₂ words₂) (numbers s)
      → (r ≡ s) × ((masks₁ ≡ masks₂) × (values₁ ≡ values₂) × (words₁ ≡ words₂))
  read-once-flat = read-once flat-alike

  pub read-numbers-once-flat : {r s : ReadAnswer} → ReadPromise text (lent_flat masks₀ values₀ words₀ masks₁ values₁ words₁) r
      → ReadPromise text (lent_flat masks₀ values₀ words₀ masks₂ values₂ words₂) s
      → (r ≡ s) × ((masks₁ ≡ masks₂) × (values₁ ≡ values₂) × (words₁ ≡ words₂))
  read-numbers-once-flat = read-numbers-once flat-alike

-- The law by which a promise that is an equation leaves one answer; and that lent room which is to hold the same rows holds the same, as
-- records and in three flat slices. Assumes nothing.
use Rattle.std.specs.Prelude.{◌≡◌, List, ℕ}
use Rattle.std.proofs.Common.{sym, ◌∙◌}
use Rattle.block.specs.declared.Row.{Row}
use Rattle.block.specs.declared.Answer.{Answer}
use Rattle.promises.specs.Lent.{lent_records, lent_flat}

-- two things that are equal to a third are equal
pub one {ℓ} : {A : Type ℓ} {x y z : A} → x ≡ z → y ≡ z → x ≡ y
one p q = p ∙ sym q

-- where the one holds the rows of an answer and the other too, E
abbrev pub Alike : (Answer → List Row → Type 0) → (Answer → List Row → Type 0) → Type 0 → Type 0
Alike holds₁ holds₂ E = (v : Answer) (s : List Row) → holds₁ v s → holds₂ v s → E

pub records-alike : (rows₀ : List Row) {rows₁ rows₂ : List Row} → Alike (lent_records rows₀ rows₁).holds (lent_records rows₀ rows₂).holds (rows₁ ≡ rows₂)
records-alike rows₀ v s p q = one p q

pub flat-alike : {masks₀ values₀ words₀ masks₁ values₁ words₁ masks₂ values₂ words₂ : List ℕ}
    → Alike (lent_flat masks₀ values₀ words₀ masks₁ values₁ words₁).holds (lent_flat masks₀ values₀ words₀ masks₂ values₂ words₂).holds
    ((masks₁ ≡ masks₂) × (values₁ ≡ values₂) × (words₁ ≡ words₂))
flat-alike v s p q = (one p.masks q.masks, one p.values q.values, one p.words q.words)

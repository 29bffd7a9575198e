-- Models in BLIF: each promise leaves one answer. Assumes nothing.
use Rattle.std.specs.Prelude.{◌≡◌, List, ℕ}
use Rattle.block.specs.declared.Row.{Row}
use Rattle.block.specs.declared.Pattern.{Pattern}
use Rattle.block.specs.declared.TextAnswer.{TextAnswer}
use Rattle.block.specs.declared.ModelAnswer.{ModelAnswer}
use Rattle.block.specs.declared.ValueAnswer.{ValueAnswer}
use Rattle.promises.specs.Models.{WriteModelPromise, ReadModelPromise, ModelValuePromise, PrintModelPromise}
use Rattle.once.specs.Law.{one}

pub write-model-once : {n k y w : ℕ} {rs : List Row} {out₀ : List ℕ} {r s : TextAnswer} {out₁ out₂ : List ℕ}
    → WriteModelPromise n k y w rs out₀ r out₁ → WriteModelPromise n k y w rs out₀ s out₂ → (r ≡ s) × (out₁ ≡ out₂)
write-model-once p q = (one p.answer q.answer, one p.text q.text)

pub read-model-once : {text matrix₀ counts₀ masks₀ values₀ : List ℕ} {r s : ModelAnswer}
    {matrix₁ counts₁ masks₁ values₁ matrix₂ counts₂ masks₂ values₂ : List ℕ}
    → ReadModelPromise text matrix₀ counts₀ masks₀ values₀ r matrix₁ counts₁ masks₁ values₁
    → ReadModelPromise text matrix₀ counts₀ masks₀ values₀ s matrix₂ counts₂ masks₂ values₂
    → (r ≡ s) × (matrix₁ ≡ matrix₂) × (counts₁ ≡ counts₂) × (masks₁ ≡ masks₂) × (values₁ ≡ values₂)
read-model-once p q = (
  one p.answer q.answer,
  one p.matrix q.matrix,
  one p.counts q.counts,
  one p.masks q.masks,
  one p.values q.values,
)

pub model-value-once : {n k x : ℕ} {sigma counts : List ℕ} {ps : List Pattern} {r s : ValueAnswer} → ModelValuePromise n k x sigma counts ps r
    → ModelValuePromise n k x sigma counts ps s → r ≡ s
model-value-once p q = one p.answer q.answer

pub print-model-once : {input out₀ : List ℕ} {a b : ℕ} {out₁ out₂ : List ℕ} → PrintModelPromise input out₀ a out₁
    → PrintModelPromise input out₀ b out₂ → (a ≡ b) × (out₁ ≡ out₂)
print-model-once p q = (one p.bytes q.bytes, one p.text q.text)

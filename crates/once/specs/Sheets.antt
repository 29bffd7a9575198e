-- The sheet, what the program prints, and a list of a bulk import: each promise leaves one answer. Assumes nothing.
use Rattle.std.specs.Prelude.{◌≡◌, List, ℕ}
use Rattle.block.specs.declared.Row.{Row}
use Rattle.block.specs.declared.TextAnswer.{TextAnswer}
use Rattle.promises.specs.Sheets.{SheetPromise, PrintPromise}
use Rattle.importing.specs.Import.{ImportPromise}
use Rattle.importing.specs.declared.Imported.{Imported}
use Rattle.once.specs.Law.{one}

pub sheet-once : {n k y w : ℕ} {rs : List Row} {out₀ : List ℕ} {r s : TextAnswer} {out₁ out₂ : List ℕ} → SheetPromise n k y w rs out₀ r out₁
    → SheetPromise n k y w rs out₀ s out₂ → (r ≡ s) × (out₁ ≡ out₂)
sheet-once p q = (one p.answer q.answer, one p.text q.text)

pub print-once : {input out₀ : List ℕ} {a b : ℕ} {out₁ out₂ : List ℕ} → PrintPromise input out₀ a out₁ → PrintPromise input out₀ b out₂
    → (a ≡ b) × (out₁ ≡ out₂)
print-once p q = (one p.bytes q.bytes, one p.text q.text)

pub import-once : {name text sheet₀ line₀ : List ℕ} {r s : Imported} {sheet₁ sheet₂ line₁ line₂ : List ℕ}
    → ImportPromise name text sheet₀ line₀ r sheet₁ line₁ → ImportPromise name text sheet₀ line₀ s sheet₂ line₂
    → (r ≡ s) × (sheet₁ ≡ sheet₂) × (line₁ ≡ line₂)
import-once p q = (one p.answer q.answer, one p.sheet q.sheet, one p.line q.line)

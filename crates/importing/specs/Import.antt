-- What one list of a bulk import comes to, and what `import_text` promises of it. Assumes nothing.
use Rattle.std.specs.Prelude.{◌≡◌, List, ℕ, length, take}
use Rattle.slices.specs.Places.{over}
use Rattle.block.specs.Refusals.{stored}
use Rattle.text_work.specs.Work.{text_verdict, sheet_in, text_work}
use Rattle.put_import.specs.Line.{import_line}
use Rattle.importing.specs.declared.Imported.{Imported}

-- the line of a list: at most 4,096 bytes of its name, and what came of its text
unfoldable pub line_of : List ℕ → List ℕ → List ℕ
line_of name text = import_line (take 4096 name) (text_work text)

-- the answer: the verdict's number and places, the bytes of the sheet and the bytes of the line
unfoldable pub imported : List ℕ → List ℕ → Imported
imported name text =
    record {
      number = (text_verdict text).number;
      a = (text_verdict text).a;
      b = (text_verdict text).b;
      count = (text_work text).count;
      length = length (line_of name text);
    }

-- the promise: storage that held s₀ holds s₁ at the end
pub record ImportPromise (name text sheet₀ line₀ : List ℕ) (r : Imported) (sheet₁ line₁ : List ℕ) : Type 0 where
  pub answer : r ≡ imported name text
  pub sheet : sheet₁ ≡ stored (text_verdict text) (sheet_in text) sheet₀
  pub line : line₁ ≡ over (line_of name text) line₀

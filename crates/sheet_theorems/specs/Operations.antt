-- `sheet-block`, for a card maker: whenever the sheet operation answers, the program prints a sheet for a text, or an import makes one, the
-- bytes tell the block of the list. Beside it demand 1 over the bytes that the program gives (`print-one`). Assumes nothing.
use Rattle.std.specs.Prelude.{◌≡◌, ℕ, min, ◌<◌, length, take, drop}
use Rattle.std.proofs.Common.{sym, ap, ◌∙◌, arith, length-take, take_at, take_all}
use Rattle.std.proofs.Math.Path.{subst}
use mathlib.Core.List.{List}
use Rattle.std.proofs.Math.Decide.{dec_lt}
use Rattle.slices.specs.Places.{at, over}
use Rattle.block.specs.Limits.{read_bytes, given_rows, sheet_room}
use Rattle.block.specs.Words.{missing}
use Rattle.block.specs.Text.{text_of, read_verdict, inputs_in, outputs_in, type_in, type_line_in, rows_in}
use Rattle.block.specs.Sheet.{sheet_text, sheet_verdict, sheet, printed}
use Rattle.block.specs.declared.Row.{Row}
use Rattle.block.specs.declared.Answer.{Answer}
use Rattle.block.specs.declared.TextAnswer.{TextAnswer}
use Rattle.promises.specs.Sheets.{SheetPromise, PrintPromise}
use Rattle.refusal_laws.specs.Verdicts.{zero-too, carried-yes, stored-yes}
use Rattle.text_theorems.specs.Accepted.{accepted-le, read-written}
use Rattle.text_work.specs.Work.{text_verdict, sheet_in, text_work}
use Rattle.text_work.specs.Reader.{verdict-reader, verdict-sheet}
use Rattle.importing.specs.Import.{imported, ImportPromise}
use Rattle.importing.specs.declared.Imported.{Imported}
use Rattle.sheet_theorems.specs.Block.{TellsBlock, sheet-tells}
use Rattle.sheet_theorems.specs.Printed.{PrintsOne, printed-one}

-- ---- the sheet operation, on flat rows and on records

-- bytes at the front of storage
pub front : (s l l' : List ℕ) (count : ℕ) → l' ≡ over s l → count ≡ length s → take count l' ≡ s
front s l l' count e c = ap (take count) e ∙ take_at s (drop (length s) l) count (sym c)

pub sheet-block : (n k y w : ℕ) (rs : List Row) (out₀ : List ℕ) (r : TextAnswer) (out₁ : List ℕ) → SheetPromise n k y w rs out₀ r out₁
    → r.number ≡ 0 → TellsBlock n k y w rs (take r.count out₁)
unfolding sheet
sheet-block n k y w rs out₀ r out₁ p h =
    let v : Answer = sheet_verdict n k y w rs (length out₀) in
    let z : (sheet_verdict n k y w rs (length out₀)).number ≡ 0 = sym (ap (λ (x : TextAnswer). x.number) p.answer) ∙ h in
    let c : r.count ≡ length (sheet_text (missing y) n k w rs) = ap (λ (x : TextAnswer). x.count) p.answer ∙ carried-yes v (length (sheet_text (missing y) n k w rs)) z in
    rw (front (sheet_text (missing y) n k w rs) out₀ out₁ r.count (p.text ∙ stored-yes v (sheet_text (missing y) n k w rs) out₀ z) c)
    (sheet-tells n k y w rs (length out₀) z)

-- ---- a text

-- the bytes tell the block of the rows that the text spells, with the type that the text has
pub record TellsText (text bytes : List ℕ) : Type 0 where
  pub spelt : text_of (inputs_in text) (outputs_in text) (type_in text) (type_line_in text) (rows_in text) ≡ text
  pub block : TellsBlock (inputs_in text) (outputs_in text) (type_in text) (min 3 (inputs_in text)) (rows_in text) bytes

module _ (input : List ℕ) (answers : (text_verdict input).number ≡ 0) where
  read-zero : (read_verdict (take read_bytes input) given_rows).number ≡ 0
  read-zero = go (dec_lt 0 (read_verdict (take read_bytes input) given_rows).number)
    where
      go : Dec (0 < (read_verdict (take read_bytes input) given_rows).number) → (read_verdict (take read_bytes input) given_rows).number ≡ 0
      go (yes l) = zero-too (verdict-reader input (λ e. omega arith)) answers
      go (no l) = omega arith

  -- an accepted text is shorter than what is read
  whole : take read_bytes input ≡ input
  whole =
      take_all read_bytes input
      (omega (arith, accepted-le (take read_bytes input) given_rows read-zero, length-take read_bytes input))

  pub text-tells : TellsText input (sheet_in input)
  unfolding sheet_in
  text-tells =
      record {
        spelt = rw whole at (read-written (take read_bytes input) given_rows read-zero);
        block =
            subst (λ (text : List ℕ). TellsBlock (inputs_in text) (outputs_in text) (type_in text) (min 3 (inputs_in text)) (rows_in text) (sheet_in input)) whole
            (sheet-tells _ _ _ _ _ sheet_room (zero-too (verdict-sheet input read-zero) answers));
      }

-- the program
pub print-one : (input out₀ : List ℕ) (count : ℕ) (out₁ : List ℕ) → PrintPromise input out₀ count out₁ → PrintsOne input (take count out₁)
print-one input out₀ count out₁ p = rw (front (printed input) out₀ out₁ count p.text p.bytes) (printed-one input)

pub print-block : (input out₀ : List ℕ) (count : ℕ) (out₁ : List ℕ) → PrintPromise input out₀ count out₁
    → at (take count out₁) 0 ≡ 115 → TellsText input (take count out₁)
print-block input out₀ count out₁ p h =
    let s = (print-one input out₀ count out₁ p).sheet h in
    rw s.1 (text-tells input s.0)

-- an import
pub import-block : (name text sheet₀ line₀ : List ℕ) (r : Imported) (sheet₁ line₁ : List ℕ) → ImportPromise name text sheet₀ line₀ r sheet₁ line₁
    → r.number ≡ 0 → TellsText text (take r.count sheet₁)
unfolding imported text_work
import-block name text sheet₀ line₀ r sheet₁ line₁ p h =
    let z : (text_verdict text).number ≡ 0 = sym (ap (λ (x : Imported). x.number) p.answer) ∙ h in
    let c : r.count ≡ length (sheet_in text) = ap (λ (x : Imported). x.count) p.answer ∙ carried-yes (text_verdict text) (length (sheet_in text)) z in
    rw (front (sheet_in text) sheet₀ sheet₁ r.count (p.sheet ∙ stored-yes (text_verdict text) (sheet_in text) sheet₀ z) c) (text-tells text z)

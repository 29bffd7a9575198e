-- What the work of a text comes to (01, the first section, and The sheet): the reader's refusal, or the sheet of the rows that the text
-- says, of the type that it has, with weight limit 3, or n where n is below 3. At most 8,192 bytes are looked at. Assumes nothing.
use Rattle.std.specs.Prelude.{cond, List, ℕ, min, length, take}
use Rattle.block.specs.Limits.{sheet_room, given_rows, read_bytes}
use Rattle.block.specs.Words.{missing, of_rows, rows_of}
use Rattle.block.specs.Measure.{measure}
use Rattle.block.specs.Basis.{smaller_of}
use Rattle.block.specs.Refusals.{answered}
use Rattle.block.specs.Lists.{smaller_list}
use Rattle.block.specs.Text.{read_verdict, type_in, inputs_in, outputs_in, rows_in}
use Rattle.block.specs.Sheet.{sheet_text, sheet_verdict}
use Rattle.block.specs.declared.Row.{Row}
use Rattle.block.specs.declared.Answer.{Answer}
use Rattle.sheet_work.specs.Work.{with_sheet}
use Rattle.block.specs.declared.SheetWork.{SheetWork}

-- the list of the first rows in storage
abbrev pub first_rows : ℕ → List ℕ → List ℕ → List ℕ → List Row
first_rows count masks values words = rows_of (take count masks) (take count values) (take count words)

-- the reader's refusal, or else the sheet's verdict
unfoldable pub text_verdict : List ℕ → Answer
text_verdict input =
    let text : List ℕ = take read_bytes input in
    let n : ℕ = inputs_in text in
    let u : Answer = read_verdict text given_rows in
    cond (answered u) (sheet_verdict n (outputs_in text) (type_in text) (min 3 n) (rows_in text) sheet_room) u

-- the sheet of the rows
unfoldable pub sheet_in : List ℕ → List ℕ
sheet_in input =
    let text : List ℕ = take read_bytes input in
    let n : ℕ = inputs_in text in
    sheet_text (missing (type_in text)) n (outputs_in text) (min 3 n) (rows_in text)

-- the answer with the measures, the number of smaller rows and the number of bytes
unfoldable pub text_work : List ℕ → SheetWork
text_work input =
    let text : List ℕ = take read_bytes input in
    let n : ℕ = inputs_in text in
    let m : ℕ = missing (type_in text) in
    let rs : List Row = rows_in text in
    with_sheet (text_verdict input) (measure (of_rows m rs) n) (measure (smaller_of (of_rows m rs) n (min 3 n)) n)
    (length (smaller_list m n (min 3 n) rs)) (length (sheet_in input))

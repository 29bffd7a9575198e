-- The sheet and the program (01, The sheet, and its first section): every byte. Not here: its length, which is a law.
-- Assumes nothing.
use Rattle.std.specs.Prelude.{cond, List, [], ◌∷◌, ◌++◌, ℕ, zero, suc, min, ltb, length, take}
use Rattle.block.specs.Limits.{sheet_room, given_rows, read_bytes}
use Rattle.block.specs.Words.{missing, of_rows}
use Rattle.block.specs.Measure.{measure}
use Rattle.block.specs.Basis.{basis_of, sigma_of, smaller_of}
use Rattle.block.specs.Refusals.{verdict, answered}
use Rattle.block.specs.Lists.{method_checks, smaller_list}
use Rattle.block.specs.Text.{decimal, bits, row_lines, with_bytes, read_verdict, inputs_in, outputs_in, type_in, rows_in}
use Rattle.block.specs.declared.Row.{Row}
use Rattle.block.specs.declared.Answer.{Answer}
use Rattle.block.specs.declared.TextAnswer.{TextAnswer}

-- a section's first line: its name and its count
unfoldable pub section : List ℕ → ℕ → List ℕ
section name count = name ++ (32 ∷ decimal count) ++ (10 ∷ [])

-- numbers, one to a line
unfoldable pub number_lines : List ℕ → List ℕ
number_lines [] = []
number_lines (v ∷ vs) = decimal v ++ (10 ∷ number_lines vs)

-- columns or rows of a matrix, n bits each, one to a line, highest input first
unfoldable pub matrix_lines : ℕ → List ℕ → List ℕ
matrix_lines n [] = []
matrix_lines n (v ∷ vs) = bits n v ++ (10 ∷ matrix_lines n vs)

-- the names "sheet", "size", "measure", "basis", "sigma", "table"
abbrev pub sheet_name : List ℕ
sheet_name = 115 ∷ 104 ∷ 101 ∷ 101 ∷ 116 ∷ []

abbrev pub size_name : List ℕ
size_name = 115 ∷ 105 ∷ 122 ∷ 101 ∷ []

abbrev pub measure_name : List ℕ
measure_name = 109 ∷ 101 ∷ 97 ∷ 115 ∷ 117 ∷ 114 ∷ 101 ∷ []

abbrev pub basis_name : List ℕ
basis_name = 98 ∷ 97 ∷ 115 ∷ 105 ∷ 115 ∷ []

abbrev pub sigma_name : List ℕ
sigma_name = 115 ∷ 105 ∷ 103 ∷ 109 ∷ 97 ∷ []

abbrev pub table_name : List ℕ
table_name = 116 ∷ 97 ∷ 98 ∷ 108 ∷ 101 ∷ []

-- the sheet: its form number, then the sections
unfoldable pub sheet_of : ℕ → ℕ → ℕ → ℕ → ℕ → List ℕ → List ℕ → List Row → List ℕ
sheet_of n k w earlier later cs ss rs =
    section sheet_name 1
    ++ section size_name 3 ++ number_lines (n ∷ k ∷ w ∷ [])
    ++ section measure_name 2 ++ number_lines (earlier ∷ later ∷ [])
    ++ section basis_name n ++ matrix_lines n cs
    ++ section sigma_name n ++ matrix_lines n ss
    ++ section table_name (length rs) ++ row_lines n k rs

-- the sheet of a list and a weight limit: what the row method answers; m is the word of a missing point, and the sheet does not show it
unfoldable pub sheet_text : ℕ → ℕ → ℕ → ℕ → List Row → List ℕ
sheet_text m n k w rs =
    sheet_of n k w (measure (of_rows m rs) n) (measure (smaller_of (of_rows m rs) n w) n)
    (basis_of (of_rows m rs) n w) (sigma_of (of_rows m rs) n w) (smaller_list m n w rs)

-- the refusals of the row method, 5 being the sheet's own room
unfoldable pub sheet_verdict : ℕ → ℕ → ℕ → ℕ → List Row → ℕ → Answer
sheet_verdict n k y w rs room = verdict (method_checks n k y w rs (ltb room sheet_room))

unfoldable pub sheet : ℕ → ℕ → ℕ → ℕ → List Row → ℕ → TextAnswer
sheet n k y w rs room = with_bytes (sheet_verdict n k y w rs room) (sheet_text (missing y) n k w rs)

-- ---- the program

-- the line "refused N A B"
unfoldable pub refusal_line : Answer → List ℕ
refusal_line v =
    114 ∷ 101 ∷ 102 ∷ 117 ∷ 115 ∷ 101 ∷ 100 ∷ 32 ∷ decimal v.number ++ (32 ∷ decimal v.a) ++ (32 ∷ decimal v.b) ++ (10 ∷ [])

-- a text, or the line that says why not
unfoldable pub or_refused : Answer → List ℕ → List ℕ
or_refused v text = cond (answered v) text (refusal_line v)

-- what is printed for a list of type y: weight limit 3, or n where n is below 3
unfoldable pub printed_list : ℕ → ℕ → ℕ → List Row → List ℕ
printed_list n k y rs = or_refused (sheet_verdict n k y (min 3 n) rs sheet_room) (sheet_text (missing y) n k (min 3 n) rs)

-- what is printed for the text read, at most 8,192 bytes of it, with the type that the text has
unfoldable pub printed : List ℕ → List ℕ
printed input =
    let text : List ℕ = take read_bytes input in
    or_refused (read_verdict text given_rows) (printed_list (inputs_in text) (outputs_in text) (type_in text) (rows_in text))

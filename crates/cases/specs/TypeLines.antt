-- The type line (02, Ticket 2) by examples, on a text of one row: written and read with the line and without it, and lines of 10 counted
-- with it. Assumes nothing.
use Rattle.std.specs.Prelude.{◌≡◌, refl, List, [], ◌∷◌, ◌++◌, ℕ}
use Rattle.slices.specs.Places.{tab, first}
use Rattle.block.specs.Words.{fr, fd, row}
use Rattle.block.specs.Refusals.{verdict, answer}
use Rattle.block.specs.Text.{digits, symbols, bits, row_line, row_lines, head_line, type_line_of, text_of, lines, equal, every, numeral, head_form, row_form, spelled, row_on, type_line_in, type_in, head_place, head_fault, body_due, body_fault, rows_on, with_headings, read_verdict, read_text, rows_in}

-- ".i 1", ".o 1"
abbrev inputs : List ℕ
inputs = 46 ∷ 105 ∷ 32 ∷ 49 ∷ 10 ∷ []

abbrev outputs : List ℕ
outputs = 46 ∷ 111 ∷ 32 ∷ 49 ∷ 10 ∷ []

abbrev opening : List ℕ
opening = inputs ++ outputs

-- ".p 1", "1 1", ".e"
abbrev rest : List ℕ
rest = 46 ∷ 112 ∷ 32 ∷ 49 ∷ 10 ∷ 49 ∷ 32 ∷ 49 ∷ 10 ∷ 46 ∷ 101 ∷ 10 ∷ []

-- ".p 1", "2 1"
abbrev malformed : List ℕ
malformed = 46 ∷ 112 ∷ 32 ∷ 49 ∷ 10 ∷ 50 ∷ 32 ∷ 49 ∷ 10 ∷ []

-- ".type f"
abbrev other_line : List ℕ
other_line = 46 ∷ 116 ∷ 121 ∷ 112 ∷ 101 ∷ 32 ∷ 102 ∷ 10 ∷ []

-- the line stands where it is asked for; type fd has it or not
pub written : (text_of 1 1 fr 1 (row 1 1 1 ∷ []) ≡ opening ++ (type_line_of fr ++ rest))
    × (text_of 1 1 fd 1 (row 1 1 1 ∷ []) ≡ opening ++ (type_line_of fd ++ rest))
    × (text_of 1 1 fd 0 (row 1 1 1 ∷ []) ≡ opening ++ rest)
unfolding digits symbols bits row_line row_lines head_line text_of
written = (refl, refl, refl)

-- the reader tells the type and whether the line stood; with no line fd holds
pub read : (read_text (opening ++ (type_line_of fr ++ rest)) 1 ≡ with_headings (answer 0 0 0) 1 1 fr 1 1)
    × (read_text (opening ++ (type_line_of fd ++ rest)) 1 ≡ with_headings (answer 0 0 0) 1 1 fd 1 1)
    × (read_text (opening ++ rest) 1 ≡ with_headings (answer 0 0 0) 1 1 fd 0 1)
    × (rows_in (opening ++ (type_line_of fr ++ rest)) ≡ row 1 1 1 ∷ [])
unfolding
    verdict tab first lines equal every numeral head_form row_form spelled row_on type_line_in type_in head_place head_fault body_due body_fault
    rows_on read_verdict read_text rows_in
read = (refl, refl, refl, refl)

-- 10: another line in its place, the line before .o or twice, a text that ends after it, and a row that lacks form below it
pub refused : (read_verdict (opening ++ (other_line ++ rest)) 1 ≡ answer 10 3 0)
    × (read_verdict (type_line_of fd ++ (opening ++ rest)) 1 ≡ answer 10 1 0)
    × (read_verdict (inputs ++ (type_line_of fd ++ (outputs ++ rest))) 1 ≡ answer 10 2 0)
    × (read_verdict (opening ++ (type_line_of fd ++ (type_line_of fd ++ rest))) 1 ≡ answer 10 4 0)
    × (read_verdict (opening ++ type_line_of fd) 1 ≡ answer 10 4 0)
    × (read_verdict (opening ++ (type_line_of fr ++ malformed)) 1 ≡ answer 10 5 0)
unfolding
    verdict first lines equal every numeral head_form row_form spelled type_line_in head_place head_fault body_due body_fault read_verdict
refused = (refl, refl, refl, refl, refl, refl)

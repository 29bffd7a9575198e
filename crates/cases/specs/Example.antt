-- 01's sheet example (01, The sheet): for the text of block e the program prints these bytes, which say the numbers, matrices and rows
-- of case e, and the text of that list, of type fd with no type line, is the text itself. Assumes nothing.
use Rattle.std.specs.Prelude.{◌≡◌, refl, List, [], ◌∷◌, ℕ}
use Rattle.std.specs.Int.Count.{ones, ones_in}
use Rattle.bits.specs.Digits.{parity}
use Rattle.slices.specs.Places.{tab, first}
use Rattle.sums.specs.Sums.{sum, count}
use Rattle.block.specs.Words.{fd, of_rows, row}
use Rattle.block.specs.Measure.{same, shift, measure}
use Rattle.block.specs.Basis.{span, candidate, before, better, best, next, chosen, columns, inverse, basis_of, sigma_of, smaller_of}
use Rattle.block.specs.Rows.{highest, partner, exchange, rest, shear, reached, split_row, split_rows, moved}
use Rattle.block.specs.Refusals.{verdict, bad_row, share, second, sharing, driven, undriven}
use Rattle.block.specs.Lists.{rows_after, passing, method_checks, smaller_list}
use Rattle.block.specs.Text.{digits, symbols, bits, row_line, row_lines, head_line, text_of, lines, equal, every, numeral, head_form, row_form, spelled, row_on, type_line_in, type_in, head_place, head_fault, body_due, body_fault, rows_on, read_verdict, rows_in}
use Rattle.block.specs.Sheet.{section, number_lines, matrix_lines, sheet_of, sheet_text, sheet_verdict, or_refused, printed_list, printed}
use Rattle.block.specs.Said.{matrix_on, said}
use Rattle.cases.specs.Cases.{rows_e}

-- the input, one line of it to a line
pub input : List ℕ
input =
    46 ∷ 105 ∷ 32 ∷ 51 ∷ 10
    ∷ 46 ∷ 111 ∷ 32 ∷ 50 ∷ 10
    ∷ 46 ∷ 112 ∷ 32 ∷ 52 ∷ 10
    ∷ 48 ∷ 48 ∷ 45 ∷ 32 ∷ 48 ∷ 49 ∷ 10
    ∷ 49 ∷ 49 ∷ 45 ∷ 32 ∷ 48 ∷ 49 ∷ 10
    ∷ 48 ∷ 49 ∷ 45 ∷ 32 ∷ 49 ∷ 48 ∷ 10
    ∷ 49 ∷ 48 ∷ 45 ∷ 32 ∷ 49 ∷ 48 ∷ 10
    ∷ 46 ∷ 101 ∷ 10
    ∷ []

-- the sheet, one line of it to a line
pub sheet_lines : List ℕ
sheet_lines =
    115 ∷ 104 ∷ 101 ∷ 101 ∷ 116 ∷ 32 ∷ 49 ∷ 10
    ∷ 115 ∷ 105 ∷ 122 ∷ 101 ∷ 32 ∷ 51 ∷ 10
    ∷ 51 ∷ 10
    ∷ 50 ∷ 10
    ∷ 51 ∷ 10
    ∷ 109 ∷ 101 ∷ 97 ∷ 115 ∷ 117 ∷ 114 ∷ 101 ∷ 32 ∷ 50 ∷ 10
    ∷ 56 ∷ 10
    ∷ 49 ∷ 54 ∷ 10
    ∷ 98 ∷ 97 ∷ 115 ∷ 105 ∷ 115 ∷ 32 ∷ 51 ∷ 10
    ∷ 48 ∷ 48 ∷ 49 ∷ 10
    ∷ 49 ∷ 49 ∷ 48 ∷ 10
    ∷ 48 ∷ 49 ∷ 48 ∷ 10
    ∷ 115 ∷ 105 ∷ 103 ∷ 109 ∷ 97 ∷ 32 ∷ 51 ∷ 10
    ∷ 48 ∷ 48 ∷ 49 ∷ 10
    ∷ 49 ∷ 48 ∷ 48 ∷ 10
    ∷ 49 ∷ 49 ∷ 48 ∷ 10
    ∷ 116 ∷ 97 ∷ 98 ∷ 108 ∷ 101 ∷ 32 ∷ 52 ∷ 10
    ∷ 48 ∷ 48 ∷ 45 ∷ 32 ∷ 48 ∷ 49 ∷ 10
    ∷ 48 ∷ 49 ∷ 45 ∷ 32 ∷ 48 ∷ 49 ∷ 10
    ∷ 49 ∷ 48 ∷ 45 ∷ 32 ∷ 49 ∷ 48 ∷ 10
    ∷ 49 ∷ 49 ∷ 45 ∷ 32 ∷ 49 ∷ 48 ∷ 10
    ∷ []

pub example-sheet : printed input ≡ sheet_lines
unfolding
    input sheet_lines ones ones_in parity tab first sum count of_rows same shift measure span candidate before better best next chosen
    columns inverse basis_of sigma_of smaller_of highest partner exchange rest shear reached split_row split_rows moved verdict bad_row
    share second sharing driven undriven rows_after passing method_checks smaller_list digits symbols bits row_line row_lines lines equal every numeral
    head_form row_form spelled row_on type_line_in type_in head_place head_fault body_due body_fault rows_on read_verdict rows_in section number_lines matrix_lines sheet_of sheet_text sheet_verdict
    or_refused printed_list printed
example-sheet = refl

pub example-said : said sheet_lines
    ≡ record {
      inputs = 3;
      outputs = 2;
      weight = 3;
      earlier = 8;
      later = 16;
      basis = 1 ∷ 6 ∷ 2 ∷ [];
      sigma = 1 ∷ 4 ∷ 6 ∷ [];
      rows = row 6 0 1 ∷ row 6 2 1 ∷ row 6 4 2 ∷ row 6 6 2 ∷ [];
    }
unfolding sheet_lines tab lines spelled row_on rows_on matrix_on said
example-said = refl

pub example-text : text_of 3 2 fd 0 rows_e ≡ input
unfolding input rows_e digits symbols bits row_line row_lines head_line text_of
example-text = refl

-- The ranges (01, Words and numbers) and the rooms (01, Numbers that come back, 5), each number once. The byte counts are sums over
-- n, k and the number of rows. src/lib.rt has the same limits as constants of the code. Not here: how many bytes a text has, which
-- follows from `Text` and `Sheet`. Assumes nothing.
use Rattle.std.specs.Prelude.{ℕ, ◌+◌, ◌*◌}

-- inputs of a list, of row text and of a sheet
abbrev pub list_inputs : ℕ
list_inputs = 16

-- inputs of a table
abbrev pub table_inputs : ℕ
table_inputs = 12

abbrev pub outputs : ℕ
outputs = 15

-- rows given
abbrev pub given_rows : ℕ
given_rows = 128

-- rows of a smaller block, and rows given to filling
abbrev pub smaller_rows : ℕ
smaller_rows = 512

-- n symbols, a space, k digits and LF
abbrev pub row_bytes : ℕ → ℕ → ℕ
row_bytes n k = n + 1 + k + 1

-- room for any row text: ".i 16", ".o 15", ".type fr" (02, Ticket 2: 4,255), ".p 128", the rows and ".e", each with its LF
abbrev pub text_room : ℕ
text_room = 6 + 6 + 9 + 7 + given_rows * row_bytes list_inputs outputs + 3

-- room for any sheet: "sheet 1"; "size 3" and three numbers; "measure 2" and two; "basis 16" and "sigma 16" with their rows;
-- "table 512" and the smaller rows
abbrev pub sheet_room : ℕ
sheet_room =
    8 + (7 + 3 * 3) + (10 + 2 * 8) + 2 * (9 + list_inputs * (list_inputs + 1)) + (10 + smaller_rows * row_bytes list_inputs outputs)

-- room for any model (02, Ticket 4): ".model block"; ".inputs" and ".outputs" with names of at most three bytes; n covers or fewer a row of
-- sigma, of at most 36 bytes; for each output ".names" with its names, and its patterns of n symbols and " 1"; ".end"
abbrev pub model_room : ℕ
model_room =
    13 + (8 + list_inputs * 4) + (9 + outputs * 4) + list_inputs * (list_inputs * 36)
    + outputs * (11 + list_inputs * 4 + smaller_rows * (list_inputs + 3)) + 5

-- the bytes that the program reads
abbrev pub read_bytes : ℕ
read_bytes = 8192

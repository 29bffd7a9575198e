-- Row text of flat slices as the code puts it: the headings, the rows, the last line. Assumes nothing.
use Rattle.std.specs.Prelude.{◌≡◌, List, ◌++◌, ℕ, length}
use Rattle.block.specs.Words.{rows_of}
use Rattle.block.specs.Text.{head_line, type_lines, row_lines, end_line, text_of}
use Rattle.flat_rows.specs.Listing.{rows_from, rows-of, rows-count}

pub text-parts : (n k y z : ℕ) (masks values words : List ℕ) → length values ≡ length masks → length words ≡ length masks
    → text_of n k y z (rows_of masks values words)
    ≡ (head_line 105 n ++ head_line 111 k ++ type_lines y z ++ head_line 112 (length masks)) ++ row_lines n k (rows_from (length masks) masks values words) ++ end_line
unfolding text_of
text-parts n k y z masks values words e f = rw (rows-count masks values words e f, rows-of masks values words e f)

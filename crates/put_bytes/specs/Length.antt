-- How long the lines of rows are. Not here: how long row text and sheets are, which stand with what puts them. Assumes nothing.
use Rattle.std.specs.Prelude.{◌≡◌, List, [], ◌∷◌, ◌++◌, ℕ, ◌+◌, ◌*◌, ◌≤◌, ◌<◌, length}
use Rattle.std.proofs.Common.{ap, ◌∙◌, mul-le-mul_right, arith, length-append}
use Rattle.slices.specs.Places.{at}
use Rattle.slices.specs.Filled.{length-tab}
use Rattle.block.specs.Limits.{row_bytes}
use Rattle.block.specs.Words.{row}
use Rattle.block.specs.Text.{symbols, bits, row_line, row_lines}
use Rattle.block.specs.declared.Row.{Row}
use Rattle.flat_rows.specs.Listing.{rows_from}
use Rattle.put_bytes.specs.Digits.{length-bits, length_symbols}

pub length-row : (n k : ℕ) (r : Row) → length (row_line n k r) ≡ row_bytes n k
unfolding row_line
length-row n k r =
    omega (
      arith,
      length-append (symbols n r.mask r.values ++ (32 ∷ bits k r.word)) (10 ∷ []),
      length-append (symbols n r.mask r.values) (32 ∷ bits k r.word),
      length_symbols n r.mask r.values,
      length-bits k r.word,
    )

pub length-rows : (n k : ℕ) (rs : List Row) → length (row_lines n k rs) ≡ length rs * row_bytes n k
unfolding row_lines
length-rows n k [] = omega arith
length-rows n k (r ∷ rs) =
    omega (arith, length-append (row_line n k r) (row_lines n k rs), length-row n k r, length-rows n k rs)

-- of the first p rows of flat slices
rows-from : (n k p : ℕ) (masks values words : List ℕ) → length (row_lines n k (rows_from p masks values words)) ≡ p * row_bytes n k
rows-from n k p masks values words =
    length-rows n k (rows_from p masks values words) ∙ ap (λ (j : ℕ). j * row_bytes n k) (length-tab p _)

-- piece i of p equally long ones ends within the room for all
pub within : (i p long : ℕ) → i < p → i * long + long ≤ p * long
within i p long h = omega (arith, mul-le-mul_right long h)

-- the line of row i ends within the room for the lines of p rows
pub row_within : (n k i p : ℕ) (masks values words : List ℕ) → i < p
    → length (row_lines n k (rows_from i masks values words)) + length (row_line n k (row (at masks i) (at values i) (at words i)))
    ≤ length (row_lines n k (rows_from p masks values words))
row_within n k i p masks values words h =
    omega (
      arith,
      rows-from n k i masks values words,
      rows-from n k p masks values words,
      length-row n k (row (at masks i) (at values i) (at words i)),
      within i p (row_bytes n k) h,
    )

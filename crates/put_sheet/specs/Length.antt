-- How long the parts of a sheet are, and the whole, which fits the room that 01 asks for (5). Assumes nothing.
use Rattle.std.specs.Prelude.{◌≡◌, List, [], ◌∷◌, ℕ, ◌+◌, ◌*◌, ◌^◌, ◌≤◌, ◌<◌, length, get_or, take}
use Rattle.std.proofs.Common.{ap, ◌∙◌, mul-le-mul, arith, length-append, length-take-le}
use Rattle.block.specs.Limits.{list_inputs, outputs, smaller_rows, row_bytes, sheet_room}
use Rattle.block.specs.Text.{bits}
use Rattle.block.specs.Sheet.{section, number_lines, matrix_lines, sheet_of, sheet_name, size_name, measure_name, basis_name, sigma_name, table_name}
use Rattle.block.specs.declared.Row.{Row}
use Rattle.put_bytes.specs.Digits.{length-bits, decimal-le}
use Rattle.put_bytes.specs.Length.{length-rows, within}

-- the first line of a section with a count below 10^d
section-le : (name : List ℕ) (c d : ℕ) → 1 ≤ d → c < 10 ^ d → length (section name c) ≤ length name + d + 2
unfolding section
section-le name c d l h = simp length-append (omega (arith, decimal-le d c l h))

length-matrix : (n : ℕ) (vs : List ℕ) → length (matrix_lines n vs) ≡ length vs * (n + 1)
unfolding matrix_lines
length-matrix n [] = omega arith
length-matrix n (v ∷ vs) = omega (arith, length-append (bits n v) (10 ∷ matrix_lines n vs), length-bits n v, length-matrix n vs)

-- line i ends within the room for all
pub line-within : (n i : ℕ) (s : List ℕ) → i < length s
    → length (matrix_lines n (take i s)) + length (matrix_lines n (get_or s i 0 ∷ [])) ≤ length (matrix_lines n s)
line-within n i s h =
    omega (
      arith,
      length-matrix n (take i s) ∙ ap (λ (j : ℕ). j * (n + 1)) (length-take-le i s (omega arith)),
      length-matrix n (get_or s i 0 ∷ []),
      length-matrix n s,
      within i (length s) (n + 1) h,
    )

-- n lines of n bits each, in the range of n
matrix-le : (n : ℕ) (vs : List ℕ) → n ≤ list_inputs → length vs ≡ n → length (matrix_lines n vs) ≤ list_inputs * (list_inputs + 1)
matrix-le n vs h e =
    let l : n + 1 ≤ list_inputs + 1 = omega arith in
    omega (arith, length-matrix n vs ∙ ap (λ (j : ℕ). j * (n + 1)) e, mul-le-mul h l)

-- the greatest measure of a block within the ranges: R at each input is at most the number of points
abbrev pub measure_most : ℕ
measure_most = list_inputs * 2 ^ list_inputs

-- a sheet within the ranges fits the room
pub sheet-le : (n k w earlier later : ℕ) (cs ss : List ℕ) (rs : List Row) → n ≤ list_inputs → k ≤ outputs → w ≤ list_inputs
    → earlier ≤ measure_most → later ≤ measure_most → length cs ≡ n → length ss ≡ n → length rs ≤ smaller_rows
    → length (sheet_of n k w earlier later cs ss rs) ≤ sheet_room
unfolding sheet_of number_lines
sheet-le n k w earlier later cs ss rs hn hk hw he hl ec es hp =
    let row : row_bytes n k ≤ row_bytes list_inputs outputs = omega arith in
    let rows : length rs * row_bytes n k ≤ smaller_rows * row_bytes list_inputs outputs = mul-le-mul hp row in
    simp length-append
    (omega (
      arith,
      section-le sheet_name 1 1 (omega arith) (omega arith),
      section-le size_name 3 1 (omega arith) (omega arith),
      decimal-le 2 n (omega arith) (omega arith),
      decimal-le 2 k (omega arith) (omega arith),
      decimal-le 2 w (omega arith) (omega arith),
      section-le measure_name 2 1 (omega arith) (omega arith),
      decimal-le 7 earlier (omega arith) (omega arith),
      decimal-le 7 later (omega arith) (omega arith),
      section-le basis_name n 2 (omega arith) (omega arith),
      matrix-le n cs hn ec,
      section-le sigma_name n 2 (omega arith) (omega arith),
      matrix-le n ss hn es,
      section-le table_name (length rs) 3 (omega arith) (omega arith),
      length-rows n k rs,
    ))

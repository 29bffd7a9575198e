-- The parts of a sheet as the code puts them: matrix lines one at a time, and the sheet in four parts. Not here: what the lines are
-- (block's `Sheet`). Assumes nothing.
use Rattle.std.specs.Prelude.{◌≡◌, refl, List, [], ◌∷◌, ◌++◌, ℕ, ◌+◌, ◌<◌, length, get_or, take}
use Rattle.std.proofs.Common.{sym, ap, ◌∙◌, append_assoc, add-one, take-suc}
use Rattle.block.specs.Text.{bits, row_lines}
use Rattle.block.specs.Sheet.{section, number_lines, matrix_lines, sheet_of, sheet_name, size_name, measure_name, basis_name, sigma_name, table_name}
use Rattle.block.specs.declared.Row.{Row}

-- the sections sheet and size
unfoldable pub sizes_text : ℕ → ℕ → ℕ → List ℕ
sizes_text n k w = section sheet_name 1 ++ section size_name 3 ++ number_lines (n ∷ []) ++ number_lines (k ∷ []) ++ number_lines (w ∷ [])

-- and measure
unfoldable pub front_text : ℕ → ℕ → ℕ → ℕ → ℕ → List ℕ
front_text n k w earlier later =
    sizes_text n k w ++ section measure_name 2 ++ number_lines (earlier ∷ []) ++ number_lines (later ∷ [])

-- the section basis, or sigma
unfoldable pub columns_text : List ℕ → ℕ → List ℕ → List ℕ
columns_text name n vs = section name n ++ matrix_lines n vs

-- the section table
unfoldable pub table_text : ℕ → ℕ → List Row → List ℕ
table_text n k rs = section table_name (length rs) ++ row_lines n k rs

pub sheet-parts : (n k w earlier later : ℕ) (cs ss : List ℕ) (rs : List Row)
    → sheet_of n k w earlier later cs ss rs
    ≡ front_text n k w earlier later ++ columns_text basis_name n cs ++ columns_text sigma_name n ss ++ table_text n k rs
unfolding sheet_of front_text sizes_text columns_text table_text number_lines
sheet-parts n k w earlier later cs ss rs = simp append_assoc

-- ---- a matrix, one line at a time

matrix-append : (n : ℕ) (vs us : List ℕ) → matrix_lines n (vs ++ us) ≡ matrix_lines n vs ++ matrix_lines n us
unfolding matrix_lines
matrix-append n [] us = refl
matrix-append n (v ∷ vs) us =
    ap (λ (t : List ℕ). bits n v ++ (10 ∷ t)) (matrix-append n vs us)
    ∙ sym (append_assoc (bits n v) (10 ∷ matrix_lines n vs) (matrix_lines n us))

pub matrix-none : (n : ℕ) (s : List ℕ) → matrix_lines n (take 0 s) ≡ []
unfolding matrix_lines
matrix-none n s = refl

pub matrix-more : (n i : ℕ) (s : List ℕ) → i < length s
    → matrix_lines n (take (i + 1) s) ≡ matrix_lines n (take i s) ++ matrix_lines n (get_or s i 0 ∷ [])
matrix-more n i s h =
    ap (λ (j : ℕ). matrix_lines n (take j s)) (add-one i)
    ∙ ap (matrix_lines n) (take-suc s i 0 h)
    ∙ matrix-append n (take i s) (get_or s i 0 ∷ [])

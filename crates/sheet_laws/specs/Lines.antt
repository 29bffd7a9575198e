-- The lines of a written sheet (`sheet-lines`): each part of it, cut at LF, and the rest behind it. Assumes nothing.
use Rattle.std.specs.Prelude.{◌≡◌, true, false, not, ℕ, ◌^◌, ◌<◌, eqb, length}
use Rattle.std.proofs.Math.Path.{refl, ap}
use Rattle.std.proofs.Common.{sym, ◌∙◌, arith}
use mathlib.Core.List.{List, [], ◌∷◌, ◌++◌, map, append_assoc, append-nil}
use Rattle.block.specs.Refusals.{bad_row, row_at}
use Rattle.block.specs.Text.{decimal, bits, row_line, row_lines, lines, every}
use Rattle.block.specs.Sheet.{section, number_lines, matrix_lines, sheet_name, size_name, measure_name, basis_name, sigma_name, table_name, sheet_of}
use Rattle.block.specs.declared.Row.{Row}
use Rattle.read_laws.specs.Tests.{every_append}
use Rattle.read_laws.specs.Front.{no_lf}
use Rattle.read_laws.specs.Numerals.{numeral-no_lf, written-numeral}
use Rattle.text_theorems.specs.Rows.{bits-no_lf}
use Rattle.text_theorems.specs.Written.{cut_line, cut-rows}

-- ---- one line

-- bytes and LF
abbrev pub ended : List ℕ → List ℕ
ended b = b ++ (10 ∷ [])

-- a number of at most 20 digits
abbrev pub Short : ℕ → Type 0
Short v = v < 10 ^ 20

cut-ended : (b rest : List ℕ) → no_lf b ≡ true → lines (b ++ (10 ∷ rest)) ≡ ended b ∷ lines rest
cut-ended b rest e = ap lines (sym (append_assoc b (10 ∷ []) rest)) ∙ cut_line b rest e

decimal-no_lf : (v : ℕ) → Short v → no_lf (decimal v) ≡ true
decimal-no_lf v h = numeral-no_lf 20 (decimal v) (written-numeral 20 20 v (omega arith) (omega arith) h).0

cut-number : (v : ℕ) (rest : List ℕ) → Short v → lines (decimal v ++ (10 ∷ rest)) ≡ ended (decimal v) ∷ lines rest
cut-number v rest h = cut-ended (decimal v) rest (decimal-no_lf v h)

cut-section : (name : List ℕ) (count : ℕ) (rest : List ℕ) → no_lf name ≡ true → Short count
    → lines (section name count ++ rest) ≡ section name count ∷ lines rest
unfolding section every
cut-section name count rest e h =
    cut_line (name ++ (32 ∷ decimal count)) rest (every_append (λ b. not (eqb b 10)) name (32 ∷ decimal count) e (decimal-no_lf count h))

cut-matrix : (n : ℕ) (vs rest : List ℕ) → lines (matrix_lines n vs ++ rest) ≡ map (λ v. ended (bits n v)) vs ++ lines rest
unfolding matrix_lines
cut-matrix n [] rest = refl
cut-matrix n (v ∷ vs) rest =
    ap lines (append_assoc (bits n v) (10 ∷ matrix_lines n vs) rest)
    ∙ cut-ended (bits n v) (matrix_lines n vs ++ rest) (bits-no_lf n v)
    ∙ ap (λ (ls : List (List ℕ)). ended (bits n v) ∷ ls) (cut-matrix n vs rest)

-- ---- all of them

module _ (n k w earlier later : ℕ) (cs ss : List ℕ) (rs : List Row) where
  -- from the section table on
  abbrev pub table_lines : List (List ℕ)
  table_lines = section table_name (length rs) ∷ map (row_line n k) rs

  -- from the section sigma on
  abbrev pub sigma_lines : List (List ℕ)
  sigma_lines = section sigma_name n ∷ (map (λ v. ended (bits n v)) ss ++ table_lines)

  abbrev pub sheet_lines : List (List ℕ)
  sheet_lines =
      section sheet_name 1
      ∷ section size_name 3
      ∷ ended (decimal n)
      ∷ ended (decimal k)
      ∷ ended (decimal w)
      ∷ section measure_name 2
      ∷ ended (decimal earlier)
      ∷ ended (decimal later)
      ∷ section basis_name n
      ∷ (map (λ v. ended (bits n v)) cs ++ sigma_lines)

  rows-lines : ((i : ℕ) → i < length rs → bad_row n k (row_at rs i) ≡ false) → lines (row_lines n k rs) ≡ map (row_line n k) rs
  unfolding lines
  rows-lines good =
      ap lines (sym (append-nil (row_lines n k rs))) ∙ cut-rows n k rs [] good ∙ append-nil (map (row_line n k) rs)

  table-lines : Short (length rs) → ((i : ℕ) → i < length rs → bad_row n k (row_at rs i) ≡ false)
      → lines (section table_name (length rs) ++ row_lines n k rs) ≡ table_lines
  unfolding every
  table-lines h good =
      cut-section table_name (length rs) (row_lines n k rs) refl h
      ∙ ap (λ (ls : List (List ℕ)). section table_name (length rs) ∷ ls) (rows-lines good)

  pub sheet-lines : Short n → Short k → Short w → Short earlier → Short later → Short (length rs)
      → ((i : ℕ) → i < length rs → bad_row n k (row_at rs i) ≡ false) → lines (sheet_of n k w earlier later cs ss rs) ≡ sheet_lines
  unfolding sheet_of number_lines every
  sheet-lines hn hk hw he hl hp good =
      simp append_assoc
      (cut-section sheet_name 1 _ refl (omega arith)
      ∙ ap (λ (ls : List (List ℕ)). section sheet_name 1 ∷ ls)
      (cut-section size_name 3 _ refl (omega arith)
      ∙ ap (λ (ls : List (List ℕ)). section size_name 3 ∷ ls)
      (cut-number n _ hn
      ∙ ap (λ (ls : List (List ℕ)). ended (decimal n) ∷ ls)
      (cut-number k _ hk
      ∙ ap (λ (ls : List (List ℕ)). ended (decimal k) ∷ ls)
      (cut-number w _ hw
      ∙ ap (λ (ls : List (List ℕ)). ended (decimal w) ∷ ls)
      (cut-section measure_name 2 _ refl (omega arith)
      ∙ ap (λ (ls : List (List ℕ)). section measure_name 2 ∷ ls)
      (cut-number earlier _ he
      ∙ ap (λ (ls : List (List ℕ)). ended (decimal earlier) ∷ ls)
      (cut-number later _ hl
      ∙ ap (λ (ls : List (List ℕ)). ended (decimal later) ∷ ls)
      (cut-section basis_name n _ refl hn
      ∙ ap (λ (ls : List (List ℕ)). section basis_name n ∷ ls)
      (cut-matrix n cs _
      ∙ ap (λ (ls : List (List ℕ)). map (λ v. ended (bits n v)) cs ++ ls)
      (cut-section sigma_name n _ refl hn
      ∙ ap (λ (ls : List (List ℕ)). section sigma_name n ∷ ls)
      (cut-matrix n ss _
      ∙ ap (λ (ls : List (List ℕ)). map (λ v. ended (bits n v)) ss ++ ls) (table-lines hp good)))))))))))))

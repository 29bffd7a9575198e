-- The lines of a text that was written (`written-lines`), and the text that lines make up (`rows_apart`). Assumes nothing.
use Rattle.std.specs.Prelude.{◌≡◌, refl, Bool, true, false, not, cond, List, [], ◌∷◌, ◌++◌, map, ℕ, zero, suc, ◌^◌, ◌<◌, eqb, length, drop}
use Rattle.std.proofs.Common.{sym, ap, ap₂, ◌∙◌, append_assoc, append-nil, arith, drop-drop}
use Rattle.std.proofs.lemmas.Bool.{not-true}
use Rattle.slices.specs.Places.{tab}
use Rattle.slices.specs.Tests.{and_both}
use Rattle.block.specs.Words.{fr}
use Rattle.block.specs.Refusals.{bad_row, row_at}
use Rattle.block.specs.Text.{decimal, symbols, bits, head_line, row_line, row_lines, end_line, type_line_of, type_lines, text_of, lines, line_at, every, head_digits, row_form, row_on}
use Rattle.block.specs.declared.Row.{Row}
use Rattle.put_bytes.specs.Puts.{lines-append}
use Rattle.read_laws.specs.Front.{front, start, line-front, front_rest, no_lf}
use Rattle.read_laws.specs.HeadLines.{heading-no_lf}
use Rattle.read_laws.specs.TypeLines.{type-no_lf}
use Rattle.text_theorems.specs.Rows.{form-row, row-no_lf}

-- ---- a written text, line by line

pub cut_line : (b rest : List ℕ) → no_lf b ≡ true → lines ((b ++ (10 ∷ [])) ++ rest) ≡ (b ++ (10 ∷ [])) ∷ lines rest
unfolding lines every
cut_line [] rest e = refl
cut_line (y ∷ b) rest e =
    let t = and_both (not (eqb y 10)) (no_lf b) e in
    rw (not-true (eqb y 10) t.0, cut_line b rest t.1)

cut-heading : (letter v : ℕ) (rest : List ℕ) → (letter ≡ 10 → ⊥) → v < 10 ^ head_digits
    → lines (head_line letter v ++ rest) ≡ head_line letter v ∷ lines rest
unfolding head_line
cut-heading letter v rest l h = cut_line (46 ∷ letter ∷ 32 ∷ decimal v) rest (heading-no_lf letter v l h)

cut-row : (n k : ℕ) (r : Row) (rest : List ℕ) → bad_row n k r ≡ false → lines (row_line n k r ++ rest) ≡ row_line n k r ∷ lines rest
unfolding row_line
cut-row n k r rest e = cut_line (symbols n r.mask r.values ++ (32 ∷ bits k r.word)) rest (row-no_lf n k r e)

pub cut-rows : (n k : ℕ) (rs : List Row) (rest : List ℕ) → ((i : ℕ) → i < length rs → bad_row n k (row_at rs i) ≡ false)
    → lines (row_lines n k rs ++ rest) ≡ map (row_line n k) rs ++ lines rest
unfolding row_lines
cut-rows n k [] rest h = refl
cut-rows n k (r ∷ rs) rest h =
    rw (append_assoc (row_line n k r) (row_lines n k rs) rest)
    (cut-row n k r (row_lines n k rs ++ rest) (h 0 (omega arith))
    ∙ ap (λ (ls : List (List ℕ)). row_line n k r ∷ ls) (cut-rows n k rs rest (λ j p. h (suc j) (omega arith))))

cut-end : lines end_line ≡ end_line ∷ []
unfolding lines
cut-end = refl

-- the lines that the type takes: none where z is 0
abbrev pub type_on : ℕ → ℕ → List (List ℕ)
type_on y z = cond (eqb z 0) [] (type_line_of y ∷ [])

cut-type : (y z : ℕ) (rest : List ℕ) → lines (type_lines y z ++ rest) ≡ type_on y z ++ lines rest
cut-type y z rest = go (eqb z 0)
  where
    go : (b : Bool) → lines (cond b [] (type_line_of y) ++ rest) ≡ cond b [] (type_line_of y ∷ []) ++ lines rest
    go true = refl
    go false = cut_line (46 ∷ 116 ∷ 121 ∷ 112 ∷ 101 ∷ 32 ∷ 102 ∷ cond (eqb y fr) 114 100 ∷ []) rest (type-no_lf y)

-- the headings, the type line between them where it is to stand, the rows and the last line
pub written-lines : (n k y z : ℕ) (rs : List Row) → n < 10 ^ head_digits → k < 10 ^ head_digits → length rs < 10 ^ head_digits
    → ((i : ℕ) → i < length rs → bad_row n k (row_at rs i) ≡ false)
    → lines (text_of n k y z rs)
    ≡ head_line 105 n ∷ head_line 111 k ∷ (type_on y z ++ (head_line 112 (length rs) ∷ (map (row_line n k) rs ++ (end_line ∷ []))))
unfolding text_of
written-lines n k y z rs hn hk hp good =
    simp append_assoc
    (cut-heading 105 n _ (omega arith) hn
    ∙ ap (λ (ls : List (List ℕ)). head_line 105 n ∷ ls)
    (cut-heading 111 k _ (omega arith) hk
    ∙ ap (λ (ls : List (List ℕ)). head_line 111 k ∷ ls)
    (cut-type y z _
    ∙ ap (λ (ls : List (List ℕ)). type_on y z ++ ls)
    (cut-heading 112 (length rs) _ (omega arith) hp
    ∙ ap (λ (ls : List (List ℕ)). head_line 112 (length rs) ∷ ls) (cut-rows n k rs end_line good ∙ ap (λ (ls : List (List ℕ)). map (row_line n k) rs ++ ls) cut-end)))))

-- ---- the text that lines make up

-- what follows the first i lines is line i and what follows it
pub line-apart : (s : List ℕ) (i : ℕ) → drop (start s i) s ≡ line_at s i ++ drop (start s (suc i)) s
unfolding start
line-apart s i =
    sym (front_rest (drop (start s i) s))
    ∙ ap₂ ◌++◌ (sym (line-front s i)) (drop-drop (length (front (drop (start s i) s))) (start s i) s)

-- the first p lines, where they have row form
pub rows_apart : (n k : ℕ) (s : List ℕ) (p : ℕ) → ((i : ℕ) → i < p → row_form n k (line_at s i) ≡ true)
    → s ≡ row_lines n k (tab p (λ i. row_on n k (line_at s i))) ++ drop (start s p) s
unfolding start tab row_lines
rows_apart n k s zero h = refl
rows_apart n k s (suc p) h =
    rows_apart n k s p (λ i l. h i (omega arith))
    ∙ ap (λ (l : List ℕ). before ++ l)
    (line-apart s p ∙ ap (λ (l : List ℕ). l ++ drop (start s (suc p)) s) (form-row n k (line_at s p) (h p (omega arith))).0)
    ∙ sym (append_assoc before (row_line n k (row_on n k (line_at s p))) (drop (start s (suc p)) s))
    ∙ ap (λ (l : List ℕ). l ++ drop (start s (suc p)) s) (sym more)
  where
    before : List ℕ
    before = row_lines n k (tab p (λ i. row_on n k (line_at s i)))

    more : row_lines n k (tab p (λ i. row_on n k (line_at s i)) ++ (row_on n k (line_at s p) ∷ [])) ≡ before ++ row_line n k (row_on n k (line_at s p))
    more =
        lines-append n k (tab p (λ i. row_on n k (line_at s i))) (row_on n k (line_at s p) ∷ [])
        ∙ ap (λ (l : List ℕ). before ++ l) (append-nil (row_line n k (row_on n k (line_at s p))))

-- a text whose first line is empty is empty
pub empty-front : (s : List ℕ) → front s ≡ [] → s ≡ []
unfolding front
empty-front [] e = refl
empty-front (b ∷ bs) e = go (eqb b 10) e
  where
    go : (t : Bool) → cond t (10 ∷ []) (b ∷ front bs) ≡ [] → b ∷ bs ≡ []
    go true e = let z : ◌≡◌ {A = ℕ} 0 1 = cc in absurd (omega arith)
    go false e = let z : ◌≡◌ {A = ℕ} 0 1 = cc in absurd (omega arith)

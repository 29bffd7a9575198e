-- A written sheet says what was written on it (`said-written`); so two sheets of the same bytes were written for the same numbers,
-- matrices and rows (`written_once`). Assumes nothing.
use Rattle.std.specs.Prelude.{◌≡◌, false, List, [], ◌∷◌, ◌++◌, map, ℕ, suc, ◌+◌, ◌-◌, ◌^◌, ◌<◌, length, get_or, drop}
use Rattle.std.proofs.Common.{sym, ap, ◌∙◌, append_assoc, append-nil, mod-eq_of_lt, arith, length-append, take_at, drop_at, get_or-drop, drop-drop}
use Rattle.std.proofs.lemmas.List.{length-map, get_or_at}
use Rattle.std.proofs.Math.ListN.{get_or-append, get_or-map}
use Rattle.slices.specs.Places.{at, tab}
use Rattle.slices.specs.Filled.{tab-cong, tab-list, get_d_any}
use Rattle.block.specs.Words.{row}
use Rattle.block.specs.Refusals.{bad_row, row_at}
use Rattle.block.specs.Text.{decimal, bits, row_line, lines, line_in, row_on, rows_on}
use Rattle.block.specs.Sheet.{section, sigma_name, table_name, sheet_of}
use Rattle.block.specs.Said.{Said, unended, number_on, count_on, bits_on, matrix_on, said}
use Rattle.block.specs.declared.Row.{Row}
use Rattle.read_laws.specs.Numerals.{written-numeral}
use Rattle.text_theorems.specs.Rows.{spelled-bits, row-form}
use Rattle.sheet_laws.specs.Lines.{ended, Short, table_lines, sigma_lines, sheet_lines, sheet-lines}

-- ---- one line

unended-ended : (b : List ℕ) → unended (ended b) ≡ b
unended-ended b = take_at b (10 ∷ []) (length (ended b) - 1) (omega (arith, length-append b (10 ∷ [])))

number-said : (v : ℕ) → Short v → number_on (ended (decimal v)) ≡ v
number-said v h = rw (unended-ended (decimal v)) (written-numeral 20 20 v (omega arith) (omega arith) h).1

count-said : (count : ℕ) → Short count → count_on table_name (section table_name count) ≡ count
unfolding section
count-said count h = number-said count h

bits-said : (n v : ℕ) → v < 2 ^ n → bits_on (ended (bits n v)) ≡ v
bits-said n v h = rw (unended-ended (bits n v)) ((spelled-bits n v).0 ∙ mod-eq_of_lt h)

-- ---- a run of lines

-- line i of the lines of some things, and of what follows
line-of {ℓ} : {A : Type ℓ} (f : A → List ℕ) (d : A) (vs : List A) (rest : List (List ℕ)) (i : ℕ) → i < length vs
    → line_in (map f vs ++ rest) i ≡ f (get_or vs i d)
line-of f d vs rest i h =
    let l : i < length (map f vs) = rw (length-map vs f) h in
    get_or-append (map f vs) rest [] i l ∙ get_d_any (map f vs) [] (f d) i l ∙ get_or-map f vs i d

matrix-said : (n : ℕ) (vs : List ℕ) (rest : List (List ℕ)) → length vs ≡ n → ((i : ℕ) → i < n → at vs i < 2 ^ n)
    → matrix_on n (map (λ v. ended (bits n v)) vs ++ rest) ≡ vs
unfolding matrix_on
matrix-said n vs rest e h =
    tab-cong n _ (at vs) (λ i l. ap bits_on (line-of (λ v. ended (bits n v)) 0 vs rest i (rw e l)) ∙ bits-said n (at vs i) (h i l))
    ∙ ap (λ (m : ℕ). tab m (at vs)) (sym e)
    ∙ tab-list 0 vs

rows-said : (n k : ℕ) (rs : List Row) → ((i : ℕ) → i < length rs → bad_row n k (row_at rs i) ≡ false)
    → rows_on n k (length rs) (map (row_line n k) rs) ≡ rs
unfolding rows_on
rows-said n k rs good =
    ap (rows_on n k (length rs)) (sym (append-nil (map (row_line n k) rs)))
    ∙ tab-cong (length rs) _ (row_at rs)
    (λ i l. ap (row_on n k) (line-of (row_line n k) (row 0 0 0) rs [] i l) ∙ (row-form n k (row_at rs i) (good i l)).1)
    ∙ tab-list (row 0 0 0) rs

-- ---- the sheet

-- what can be written and read again: numbers of at most 20 digits, n columns and n rows of n bits, no malformed row
pub record Writable (n k w earlier later : ℕ) (cs ss : List ℕ) (rs : List Row) : Type 0 where
  pub sizes : Short n × Short k × Short w
  pub measures : Short earlier × Short later
  pub basis : (length cs ≡ n) × ((i : ℕ) → i < n → at cs i < 2 ^ n)
  pub sigma : (length ss ≡ n) × ((i : ℕ) → i < n → at ss i < 2 ^ n)
  pub count : Short (length rs)
  pub rows : (i : ℕ) → i < length rs → bad_row n k (row_at rs i) ≡ false

-- what is behind n lines and one more
behind : (n : ℕ) (f : ℕ → List ℕ) (vs : List ℕ) (l : List ℕ) (rest : List (List ℕ)) → length vs ≡ n
    → drop (suc n) (map f vs ++ (l ∷ rest)) ≡ rest
behind n f vs l rest e =
    ap (drop (suc n)) (sym (append_assoc (map f vs) (l ∷ []) rest))
    ∙ drop_at (map f vs ++ (l ∷ [])) rest (suc n) (omega (arith, length-append (map f vs) (l ∷ []), length-map vs f))

module _ (n k w earlier later : ℕ) (cs ss : List ℕ) (rs : List Row) (h : Writable n k w earlier later cs ss rs) where
  abbrev sheet : List ℕ
  sheet = sheet_of n k w earlier later cs ss rs

  abbrev ls : List (List ℕ)
  ls = sheet_lines n k w earlier later cs ss rs

  cut : lines sheet ≡ ls
  cut =
      sheet-lines n k w earlier later cs ss rs h.sizes.0 h.sizes.1 h.sizes.2 h.measures.0 h.measures.1 h.count
      h.rows

  -- the lines behind those of the basis, and behind those of sigma
  after-basis : drop (10 + n) ls ≡ map (λ v. ended (bits n v)) ss ++ table_lines n k w earlier later cs ss rs
  after-basis =
      let e : 10 + n ≡ 9 + suc n = omega arith in
      ap (λ (i : ℕ). drop i ls) e
      ∙ sym (drop-drop (suc n) 9 ls)
      ∙ behind n (λ v. ended (bits n v)) cs (section sigma_name n) _ h.basis.0

  after-sigma : drop (11 + n + n) ls ≡ map (row_line n k) rs
  after-sigma =
      let e : 11 + n + n ≡ 10 + n + suc n = omega arith in
      ap (λ (i : ℕ). drop i ls) e
      ∙ sym (drop-drop (suc n) (10 + n) ls)
      ∙ ap (drop (suc n)) after-basis
      ∙ behind n (λ v. ended (bits n v)) ss _ _ h.sigma.0

  counted : line_in ls (10 + n + n) ≡ section table_name (length rs)
  counted =
      sym (get_or-drop (10 + n) ls n [])
      ∙ ap (λ (m : List (List ℕ)). line_in m n) after-basis
      ∙ get_or_at (map (λ v. ended (bits n v)) ss) _ _ [] n (length-map ss _ ∙ h.sigma.0)

  pub said-written : said sheet
      ≡ record { inputs = n; outputs = k; weight = w; earlier = earlier; later = later; basis = cs; sigma = ss; rows = rs }
  unfolding said
  said-written =
      rw (
        cut,
        number-said n h.sizes.0,
        number-said k h.sizes.1,
        number-said w h.sizes.2,
        number-said earlier h.measures.0,
        number-said later h.measures.1,
        matrix-said n cs (sigma_lines n k w earlier later cs ss rs) h.basis.0 h.basis.1,
        after-basis,
        matrix-said n ss (table_lines n k w earlier later cs ss rs) h.sigma.0 h.sigma.1,
        counted,
        count-said (length rs) h.count,
        after-sigma,
        rows-said n k rs h.rows,
      )

-- two sheets of the same bytes were written for the same
pub written_once : (n k w earlier later : ℕ) (cs ss : List ℕ) (rs : List Row) (n' k' w' earlier' later' : ℕ) (cs' ss' : List ℕ) (rs' : List Row)
    → Writable n k w earlier later cs ss rs → Writable n' k' w' earlier' later' cs' ss' rs'
    → sheet_of n k w earlier later cs ss rs ≡ sheet_of n' k' w' earlier' later' cs' ss' rs'
    → ◌≡◌ {A = Said} (record { inputs = n; outputs = k; weight = w; earlier = earlier; later = later; basis = cs; sigma = ss; rows = rs })
    (record { inputs = n'; outputs = k'; weight = w'; earlier = earlier'; later = later'; basis = cs'; sigma = ss'; rows = rs' })
written_once n k w earlier later cs ss rs n' k' w' earlier' later' cs' ss' rs' h g e =
    sym (said-written n k w earlier later cs ss rs h) ∙ ap said e ∙ said-written n' k' w' earlier' later' cs' ss' rs' g

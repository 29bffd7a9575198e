-- What is written for n, k, a type and rows within the ranges, none malformed, is accepted with them (`written_read`): rows written and
-- read again are the same rows, of the same type, and whether the type line stands is told as it was written. With `accepted-only` a text
-- is accepted exactly where it is so written. And so of all that the writer answers 0 for (`wrote-read`). Assumes nothing.
use Rattle.std.specs.Prelude.{◌≡◌, Bool, cond, length, drop}
use Rattle.std.proofs.Math.Path.{refl, sym, ap}
use Rattle.std.proofs.Common.{◌∙◌, arith, le-ltb, eqb-true, length-append}
use Rattle.std.proofs.Math.Bool.{true, false, not}
use mathlib.Core.List.{List, [], ◌∷◌, ◌++◌, map}
use Prim.Native.Nat.{ℕ, zero, suc, ◌+◌, ◌^◌, ◌≤◌, ◌<◌}
use Rattle.std.proofs.Math.Decide.{dec_lt, ℕ_discrete}
use Rattle.std.proofs.Math.Dec.{eqb}
use Rattle.std.proofs.lemmas.List.{length-map, get_or_at}
use Rattle.std.proofs.Math.ListN.{get_or-append, get_or-map, get_or-eq_default}
use Rattle.slices.specs.Least.{first-is}
use Rattle.slices.specs.Filled.{tab-cong, tab-list, get_d_any}
use Rattle.sums.specs.Sums.{one}
use Rattle.block.specs.Limits.{list_inputs, outputs, given_rows}
use Rattle.block.specs.Words.{fr, fd, row}
use Rattle.block.specs.Refusals.{answer, verdict, row_at}
use Rattle.block.specs.Text.{head_line, row_line, end_line, type_line_of, text_of, lines, line_in, line_at, equal, head_digits, number_part, head_form, row_form, row_on, value_of, type_line_in, type_in, head_count, head_place, head_due, head_fault, inputs_in, outputs_in, count_in, body, body_due, body_fault, rows_on, write_verdict, read_verdict, read_text, rows_in}
use Rattle.block.specs.declared.Row.{Row}
use Rattle.shared_checks.specs.Sizes.{within}
use Rattle.put_text.specs.Checks.{writable}
use Rattle.read_laws.specs.Tests.{equal-same}
use Rattle.read_laws.specs.HeadLines.{written-form}
use Rattle.read_laws.specs.TypeLines.{place-high}
use Rattle.read_laws.specs.Whole.{row-due, end-due, past-due}
use Rattle.text_theorems.specs.Rows.{row-form}
use Rattle.text_theorems.specs.Written.{type_on, written-lines}
use Rattle.text_theorems.specs.Accepted.{Within, within_same, Typed, AllGood, accepted}

-- where no line is faulty and all is in range, no check holds
none-refused : (text : List ℕ) (room : ℕ) → head_fault text ≡ head_count → Within (inputs_in text) (outputs_in text) (count_in text) room
    → body_fault (inputs_in text) (outputs_in text) (count_in text) (body text) ≡ count_in text + 2 → read_verdict text room ≡ answer 0 0 0
unfolding read_verdict verdict
none-refused text room f w g =
    rw (
      f,
      within 1 list_inputs (inputs_in text) w.inputs.0 w.inputs.1,
      within 1 outputs (outputs_in text) w.outputs.0 w.outputs.1,
      within 1 given_rows (count_in text) w.count.0 w.count.1,
      le-ltb room (count_in text) w.enough,
      g,
      le-ltb (count_in text + 2) (count_in text + 2) (omega arith),
    )

-- whether the line stands, as it is told: 0 or 1
abbrev pub told : ℕ → ℕ
told z = one (not (eqb z 0))

-- the third line and those behind it, where the first two lines are a and b
module _ (y z : ℕ) (t : Typed y z) (text a b : List ℕ) (p : ℕ) (rows : List (List ℕ))
    (all : lines text ≡ a ∷ b ∷ (type_on y z ++ (head_line 112 p ∷ rows))) where
  -- a heading is no type line, and each type line is that of its type alone
  type-back : (type_line_in text ≡ told z) × (type_in text ≡ y)
  unfolding type_line_in type_in equal head_line
  type-back = go (eqb z 0) refl y t.known t.lined all
    where
      go : (c : Bool) → eqb z 0 ≡ c → (y : ℕ) → (fr ≤ y) × (y ≤ fd) → (z ≡ 0 → y ≡ fd)
          → lines text ≡ a ∷ b ∷ (cond c [] (type_line_of y ∷ []) ++ (head_line 112 p ∷ rows)) → (type_line_in text ≡ one (not c)) × (type_in text ≡ y)
      go true q y k l e = rw e (refl, sym (l (eqb-true z 0 q)))
      go false q zero k l e = absurd (omega arith)
      go false q (suc zero) k l e = rw e (refl, refl)
      go false q (suc (suc zero)) k l e = rw e (refl, refl)
      go false q (suc (suc (suc y))) k l e = absurd (omega arith)

  -- the line of .p, and the lines of the body
  count-line : line_at text (head_place text 2) ≡ head_line 112 p
  count-line = rw (place-high text 2 (omega arith), type-back.0, all) (go (eqb z 0))
    where
      go : (c : Bool) → line_in (a ∷ b ∷ (cond c [] (type_line_of y ∷ []) ++ (head_line 112 p ∷ rows))) (2 + one (not c)) ≡ head_line 112 p
      go true = refl
      go false = refl

  body-lines : body text ≡ rows
  body-lines = rw (place-high text head_count (omega arith), type-back.0, all) (go (eqb z 0))
    where
      go : (c : Bool) → drop (head_count + one (not c)) (a ∷ b ∷ (cond c [] (type_line_of y ∷ []) ++ (head_line 112 p ∷ rows))) ≡ rows
      go true = refl
      go false = refl

-- what is written for n, k, the type y and rows within the ranges is accepted with them
module _ (n k y z room : ℕ) (rs : List Row) (w : Within n k (length rs) room) (t : Typed y z) (good : AllGood n k rs) where
  abbrev text : List ℕ
  text = text_of n k y z rs

  abbrev p : ℕ
  p = length rs

  -- the lines of the body
  abbrev rows : List (List ℕ)
  rows = map (row_line n k) rs ++ (end_line ∷ [])

  small_n : n < 10 ^ head_digits
  small_n = omega (arith, w.inputs.1)

  small-k : k < 10 ^ head_digits
  small-k = omega (arith, w.outputs.1)

  small-p : p < 10 ^ head_digits
  small-p = omega (arith, w.count.1)

  all_lines : lines text ≡ head_line 105 n ∷ head_line 111 k ∷ (type_on y z ++ (head_line 112 p ∷ rows))
  all_lines = written-lines n k y z rs small_n small-k small-p good

  -- ---- the headings

  n-back : inputs_in text ≡ n
  unfolding head_place
  n-back = ap (λ (ls : List (List ℕ)). value_of (number_part (line_in ls 0))) all_lines ∙ (written-form 105 n small_n).1

  k-back : outputs_in text ≡ k
  unfolding head_place
  k-back = ap (λ (ls : List (List ℕ)). value_of (number_part (line_in ls 1))) all_lines ∙ (written-form 111 k small-k).1

  line-back : type_line_in text ≡ told z
  line-back = (type-back y z t text _ _ p rows all_lines).0

  y-back : type_in text ≡ y
  y-back = (type-back y z t text _ _ p rows all_lines).1

  p-line : line_at text (head_place text 2) ≡ head_line 112 p
  p-line = count-line y z t text _ _ p rows all_lines

  p_back : count_in text ≡ p
  p_back = ap (λ (l : List ℕ). value_of (number_part l)) p-line ∙ (written-form 112 p small-p).1

  heads-due : (i : ℕ) → i < head_count → head_due i (line_at text (head_place text i)) ≡ true
  unfolding head_place
  heads-due zero h = ap (λ (ls : List (List ℕ)). head_form 105 (line_in ls 0)) all_lines ∙ (written-form 105 n small_n).0
  heads-due (suc zero) h = ap (λ (ls : List (List ℕ)). head_form 111 (line_in ls 1)) all_lines ∙ (written-form 111 k small-k).0
  heads-due (suc (suc zero)) h = ap (head_form 112) p-line ∙ (written-form 112 p small-p).0
  heads-due (suc (suc (suc i))) h = absurd (omega arith)

  heads-sound : head_fault text ≡ head_count
  unfolding head_fault
  heads-sound =
      first-is head_count (λ i. not (head_due i (line_at text (head_place text i)))) head_count (omega arith) (λ i h. ap not (heads-due i h))
      (λ h. absurd (omega arith))

  -- ---- the body

  body_back : body text ≡ rows
  body_back = body-lines y z t text _ _ p rows all_lines

  row-line : (i : ℕ) → i < p → line_in rows i ≡ row_line n k (row_at rs i)
  row-line i h =
      let l : i < length (map (row_line n k) rs) = omega (arith, length-map rs (row_line n k)) in
      get_or-append (map (row_line n k) rs) (end_line ∷ []) [] i l
      ∙ get_d_any (map (row_line n k) rs) [] (row_line n k (row 0 0 0)) i l
      ∙ get_or-map (row_line n k) rs i (row 0 0 0)

  end-line : line_in rows p ≡ end_line
  end-line = get_or_at (map (row_line n k) rs) end_line [] [] p (length-map rs (row_line n k))

  past-line : (i : ℕ) → p < i → line_in rows i ≡ []
  past-line i h =
      get_or-eq_default rows [] {n = i}
      (omega (arith, length-append (map (row_line n k) rs) (end_line ∷ []), length-map rs (row_line n k)))

  rows-due : (i : ℕ) → body_due n k p i (line_in rows i) ≡ true
  rows-due i = go (dec_lt i p) (dec_lt p i)
    where
      go : Dec (i < p) → Dec (p < i) → body_due n k p i (line_in rows i) ≡ true
      go (yes l) m = row-due n k p i (line_in rows i) l ∙ ap (row_form n k) (row-line i l) ∙ (row-form n k (row_at rs i) (good i l)).0
      go (no l) (no m) =
          let e : i ≡ p = omega arith in
          ap (λ (j : ℕ). body_due n k p j (line_in rows j)) e
          ∙ end-due n k p (line_in rows p)
          ∙ ap (λ (l : List ℕ). equal l end_line) end-line
          ∙ equal-same end_line
      go (no l) (yes m) =
          past-due n k p i (line_in rows i) m ∙ ap (λ (l : List ℕ). equal l []) (past-line i m) ∙ equal-same []

  rows-sound : body_fault n k p rows ≡ p + 2
  unfolding body_fault
  rows-sound =
      first-is (p + 2) (λ i. not (body_due n k p i (line_in rows i))) (p + 2) (omega arith) (λ i h. ap not (rows-due i)) (λ h. absurd (omega arith))

  rows_back : rows_on n k p rows ≡ rs
  unfolding rows_on
  rows_back =
      tab-cong p (λ i. row_on n k (line_in rows i)) (row_at rs) (λ i h. ap (row_on n k) (row-line i h) ∙ (row-form n k (row_at rs i) (good i h)).1)
      ∙ tab-list (row 0 0 0) rs

  -- ---- the answer

  pub written-verdict : read_verdict text room ≡ answer 0 0 0
  written-verdict =
      none-refused text room heads-sound (within_same (sym n-back) (sym k-back) (sym p_back) w)
      (sound (inputs_in text) (outputs_in text) (count_in text) n-back k-back p_back)
    where
      sound : (a b c : ℕ) → a ≡ n → b ≡ k → c ≡ p → body_fault a b c (body text) ≡ c + 2
      sound a b c q r s = rw (q, r, s, body_back) rows-sound

  -- rows written and read again are the same rows, and so are the type and whether its line stands
  pub written_read : (read_text text room ≡ accepted n k y (told z) p) × (rows_in text ≡ rs)
  unfolding read_text rows_in
  written_read = (
    rw written-verdict
        (same (inputs_in text) (outputs_in text) (type_in text) (type_line_in text) (count_in text) n-back k-back y-back line-back p_back),
    said (inputs_in text) (outputs_in text) (count_in text) n-back k-back p_back,
  )
    where
      same : (a b c d e : ℕ) → a ≡ n → b ≡ k → c ≡ y → d ≡ told z → e ≡ p → accepted a b c d e ≡ accepted n k y (told z) p
      same a b c d e q r s u v = rw (q, r, s, u, v)

      said : (a b c : ℕ) → a ≡ n → b ≡ k → c ≡ p → rows_on a b c (body text) ≡ rs
      said a b c q r s = rw (q, r, s, body_back) rows_back

-- so what the writer answers 0 for is read again as it was written, where the room holds the rows
pub wrote-read : (n k y z room lent : ℕ) (rs : List Row) → (write_verdict n k y z rs room).number ≡ 0 → length rs ≤ lent
    → (read_text (text_of n k y z rs) lent ≡ accepted n k y (told z) (length rs)) × (rows_in (text_of n k y z rs) ≡ rs)
wrote-read n k y z room lent rs e h =
    let w = writable n k y z rs room e in
    written_read n k y z lent rs (record { inputs = w.inputs; outputs = w.outputs; count = w.count; enough = h })
    (record { known = w.known; lined = λ q. fd-held w.known w.lined q (ℕ_discrete y fr) }) w.rows
  where
    fd-held : (fr ≤ y) × (y ≤ fd) → (y ≡ fr → z ≡ 0 → ⊥) → z ≡ 0 → Dec (y ≡ fr) → y ≡ fd
    fd-held k l q (yes p) = absurd (l p q)
    fd-held k l q (no p) = omega arith

-- The lines of a text by its first line: `front` cuts it off, and every line is the front of what follows those before it. A list
-- that stands in a text, and a line that does is its front. How many rows a text says, and how many bytes rows have. Assumes nothing.
use Rattle.std.specs.Prelude.{◌≡◌, refl, Bool, true, false, not, cond, List, [], ◌∷◌, ◌++◌, ℕ, zero, suc, ◌+◌, ◌*◌, ◌≤◌, ◌<◌, eqb, length, drop}
use Rattle.std.proofs.Common.{sym, ap, ◌∙◌, zero-add, mul-le-mul, add-one, arith, eq-eqb, eqb-true, length-append, drop-drop, get_or-drop}
use Rattle.std.proofs.Math.Decide.{dec_lt}
use Rattle.std.proofs.lemmas.Bool.{not-true}
use Rattle.std.proofs.Math.ListN.{get_or-append}
use Rattle.std.proofs.Math.Seq.{get_or-append_seam}
use Rattle.slices.specs.Places.{at}
use Rattle.slices.specs.Filled.{length-tab}
use Rattle.slices.specs.Tests.{and_both}
use Rattle.block.specs.Limits.{list_inputs, outputs, smaller_rows, row_bytes}
use Rattle.block.specs.Text.{lines, onto, line_in, line_at, every, count_in, rows_on, rows_in}

-- the first line, with its LF where it has one
unfoldable pub front : List ℕ → List ℕ
front [] = []
front (b ∷ bs) = cond (eqb b 10) (10 ∷ []) (b ∷ front bs)

-- a text that is not empty has a first line, and the others are the lines of the rest
lines_cons : (b : ℕ) (bs : List ℕ)
    → lines (b ∷ bs) ≡ front (b ∷ bs) ∷ lines (drop (length (front (b ∷ bs))) (b ∷ bs))
unfolding lines front
lines_cons b [] = go (eqb b 10)
  where
    go : (t : Bool)
        → cond t ((10 ∷ []) ∷ []) ((b ∷ []) ∷ []) ≡ cond t (10 ∷ []) (b ∷ []) ∷ lines (drop (length (cond t (10 ∷ []) (b ∷ []))) (b ∷ []))
    go true = refl
    go false = refl
lines_cons b (c ∷ cs) = go (eqb b 10) (lines_cons c cs)
  where
    l : List ℕ
    l = front (c ∷ cs)

    go : (t : Bool) → lines (c ∷ cs) ≡ l ∷ lines (drop (length l) (c ∷ cs))
        → cond t ((10 ∷ []) ∷ lines (c ∷ cs)) (onto b (lines (c ∷ cs)))
        ≡ cond t (10 ∷ []) (b ∷ l) ∷ lines (drop (length (cond t (10 ∷ []) (b ∷ l))) (b ∷ c ∷ cs))
    go true ih = refl
    go false ih = ap (onto b) ih

pub line_first : (s : List ℕ) → line_at s 0 ≡ front s
unfolding lines front
line_first [] = refl
line_first (b ∷ bs) = ap (λ (ls : List (List ℕ)). line_in ls 0) (lines_cons b bs)

lines_next : (s : List ℕ) → drop 1 (lines s) ≡ lines (drop (length (front s)) s)
unfolding lines front
lines_next [] = refl
lines_next (b ∷ bs) = ap (drop 1) (lines_cons b bs)

-- the place where line i starts
unfoldable pub start : List ℕ → ℕ → ℕ
start s zero = 0
start s (suc i) = start s i + length (front (drop (start s i) s))

-- the lines of the text from line i on are those from line i on
pub lines_from : (s : List ℕ) (i : ℕ) → drop i (lines s) ≡ lines (drop (start s i) s)
unfolding start
lines_from s zero = refl
lines_from s (suc i) =
    ap (λ (j : ℕ). drop j (lines s)) (sym (add-one i))
    ∙ sym (drop-drop 1 i (lines s))
    ∙ ap (drop 1) (lines_from s i)
    ∙ lines_next (drop (start s i) s)
    ∙ ap lines (drop-drop (length (front (drop (start s i) s))) (start s i) s)

pub line-add : (s : List ℕ) (i j : ℕ) → line_at s (i + j) ≡ line_at (drop (start s i) s) j
line-add s i j = sym (get_or-drop i (lines s) j []) ∙ ap (λ (ls : List (List ℕ)). line_in ls j) (lines_from s i)

-- line i is the front of the text from its start on
pub line-front : (s : List ℕ) (i : ℕ) → line_at s i ≡ front (drop (start s i) s)
line-front s i = ap (line_at s) (omega arith) ∙ line-add s i 0 ∙ line_first (drop (start s i) s)

-- ---- a list that stands in a text

-- t stands in s from a place on
abbrev pub Stands : List ℕ → ℕ → List ℕ → Type 0
Stands s from t = (i : ℕ) → i < length t → at s (from + i) ≡ at t i

-- the front stands at the text's start
pub front-stands : (s : List ℕ) → Stands s 0 (front s)
unfolding front
front-stands [] i h = absurd (omega arith)
front-stands (b ∷ bs) i h = ap (at (b ∷ bs)) (zero-add i) ∙ go (front-stands bs) (eqb b 10) refl i h
  where
    go : Stands bs 0 (front bs) → (t : Bool) → eqb b 10 ≡ t → (i : ℕ) → i < length (cond t (10 ∷ []) (b ∷ front bs))
        → at (b ∷ bs) i ≡ at (cond t (10 ∷ []) (b ∷ front bs)) i
    go ih true e zero h = eqb-true b 10 e
    go ih true e (suc i) h = absurd (omega arith)
    go ih false e zero h = refl
    go ih false e (suc i) h = ap (at bs) (sym (zero-add i)) ∙ ih i (omega arith)

-- of the text from a place on
pub stands_here : (s : List ℕ) (from : ℕ) (t : List ℕ) → Stands s from t → Stands (drop from s) 0 t
stands_here s from t h i l = get_or-drop from s (0 + i) 0 ∙ ap (λ (j : ℕ). at s (from + j)) (zero-add i) ∙ h i l

pub stands-there : (s : List ℕ) (from : ℕ) (t : List ℕ) → Stands (drop from s) 0 t → Stands s from t
stands-there s from t h i l = sym (get_or-drop from s i 0) ∙ ap (at (drop from s)) (sym (zero-add i)) ∙ h i l

-- the first part of what stands, and one byte more
pub stands-part : (s : List ℕ) (from : ℕ) (t u : List ℕ) → Stands s from (t ++ u) → Stands s from t
stands-part s from t u h i l = h i (omega (arith, length-append t u)) ∙ get_or-append t u 0 i l

pub stands-last : (s : List ℕ) (from : ℕ) (t : List ℕ) (x : ℕ) → Stands s from t → at s (from + length t) ≡ x → Stands s from (t ++ (x ∷ []))
stands-last s from t x h e i l = go (dec_lt i (length t))
  where
    go : Dec (i < length t) → at s (from + i) ≡ at (t ++ (x ∷ [])) i
    go (yes b) = h i b ∙ sym (get_or-append t (x ∷ []) 0 i b)
    go (no b) =
        let f : i ≡ length t = omega (arith, length-append t (x ∷ [])) in
        rw f (e ∙ sym (get_or-append_seam t x [] 0))

-- no byte of l is LF
abbrev pub no_lf : List ℕ → Bool
no_lf l = every (λ b. not (eqb b 10)) l

-- a line that stands at the text's start is its front
pub stands-front : (b s : List ℕ) → no_lf b ≡ true → Stands s 0 (b ++ (10 ∷ [])) → front s ≡ b ++ (10 ∷ [])
unfolding front every
stands-front b [] e h =
    let z : ◌≡◌ {A = ℕ} 0 10 = h (length b) (omega (arith, length-append b (10 ∷ []))) ∙ get_or-append_seam b 10 [] 0 in
    absurd (omega arith)
stands-front [] (x ∷ s) e h = rw (eq-eqb x 10 (h 0 (omega arith)))
stands-front (y ∷ b) (x ∷ s) e h =
    let t = and_both (not (eqb y 10)) (no_lf b) e in
    let f : x ≡ y = h 0 (omega arith) in
    rw (f, not-true (eqb y 10) t.0)
    (ap (λ (l : List ℕ). y ∷ l)
    (stands-front b s t.1 (λ i k. ap (at s) (zero-add i) ∙ ap (at (x ∷ s)) (sym (zero-add (suc i))) ∙ h (suc i) (omega arith))))

-- the text is its front and the rest
pub front_rest : (s : List ℕ) → front s ++ drop (length (front s)) s ≡ s
unfolding front
front_rest [] = refl
front_rest (b ∷ bs) = go (eqb b 10) refl (front_rest bs)
  where
    go : (t : Bool) → eqb b 10 ≡ t → front bs ++ drop (length (front bs)) bs ≡ bs
        → cond t (10 ∷ []) (b ∷ front bs) ++ drop (length (cond t (10 ∷ []) (b ∷ front bs))) (b ∷ bs) ≡ b ∷ bs
    go true e ih = ap (λ (x : ℕ). x ∷ bs) (sym (eqb-true b 10 e))
    go false e ih = ap (λ (l : List ℕ). b ∷ l) ih

pub front-le : (s : List ℕ) → length (front s) ≤ length s
front-le s = omega (arith, length-append (front s) (drop (length (front s)) s), ap length (front_rest s))

-- a text says as many rows as its headings say
pub rows-count : (text : List ℕ) → length (rows_in text) ≡ count_in text
unfolding rows_in rows_on
rows-count text = length-tab (count_in text) _

-- so many rows have at most as many bytes as the longest list
pub rows-bytes-le : (n k p : ℕ) → n ≤ list_inputs → k ≤ outputs → p ≤ smaller_rows
    → p * (n + k + 2) ≤ smaller_rows * row_bytes list_inputs outputs
rows-bytes-le n k p hn hk hp = let h : n + k + 2 ≤ row_bytes list_inputs outputs = omega arith in mul-le-mul hp h

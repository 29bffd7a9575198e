-- The symbols of a pattern and the lines of an output as loops put them, one more at a time. Assumes nothing.
use Rattle.std.specs.Prelude.{◌≡◌, refl, Bool, true, false, cond, List, [], ◌∷◌, ◌++◌, map, ℕ, ◌+◌, ◌/◌, ◌%◌, ◌^◌, eqb, length, set}
use Rattle.std.proofs.Common.{sym, ap, ◌∙◌, append_assoc, append-nil, add-one, length-append, shr-shr}
use Rattle.std.proofs.lemmas.List.Edits.{sets}
use Rattle.bits.specs.Digits.{bit}
use Rattle.slices.specs.Places.{at, tab}
use Rattle.slices.specs.Filled.{tab-suc, tab-zero, length-tab}
use Rattle.block.specs.Words.{row}
use Rattle.block.specs.Model.{pattern, symbol_of, cube_of, cube_line, patterns_of, joined}
use Rattle.block.specs.declared.Row.{Row}
use Rattle.block.specs.declared.Pattern.{Pattern}
use Rattle.flat_rows.specs.Listing.{rows_from}
use Rattle.put_bytes.specs.Puts.{Put, sets-append}

-- ---- symbols

-- symbol i of a pattern
abbrev pub symbol_at : ℕ → ℕ → ℕ → ℕ
symbol_at m v i = symbol_of (bit m i) (bit v i)

-- the first i symbols, put
abbrev pub symbols_put : List ℕ → ℕ → ℕ → ℕ → ℕ → List ℕ
symbols_put l to m v i = sets l to (tab i (symbol_at m v))

pub symbols-none : (l : List ℕ) (to m v : ℕ) → l ≡ symbols_put l to m v 0
symbols-none l to m v = ap (sets l to) (sym (tab-zero (symbol_at m v)))

pub symbols-more : (l : List ℕ) (to m v i x y : ℕ) → x ≡ m / 2 ^ i → y ≡ v / 2 ^ i
    → set (symbols_put l to m v i) (to + i) (symbol_of (x % 2) (y % 2)) ≡ symbols_put l to m v (i + 1)
symbols-more l to m v i x y e f =
    let more : tab i (symbol_at m v) ++ (symbol_of (x % 2) (y % 2) ∷ []) ≡ tab (i + 1) (symbol_at m v) =
    rw (add-one i, tab-suc i (symbol_at m v), e, f) in
    sets-append (tab i (symbol_at m v)) (symbol_of (x % 2) (y % 2) ∷ []) l to (to + i)
    (ap (λ (j : ℕ). to + j) (sym (length-tab i (symbol_at m v))))
    ∙ ap (sets l to) more

pub symbols-put : (l l' : List ℕ) (to n m v : ℕ) → l' ≡ symbols_put l to m v n → Put l to (cube_of n (pattern m v)) l' (to + n)
symbols-put l l' to n m v f = record { place = ap (λ (j : ℕ). to + j) (sym (length-tab n (symbol_at m v))); stored = f }

pub half-more : (m i x : ℕ) → x ≡ m / 2 ^ i → x / 2 ≡ m / 2 ^ (i + 1)
half-more m i x e = ap (λ (y : ℕ). y / 2) e ∙ shr-shr m i 1

pub length-cube : (n : ℕ) (p : Pattern) → length (cube_line (cube_of n p)) ≡ n + 3
length-cube n p = length-append (cube_of n p) (32 ∷ 49 ∷ 10 ∷ []) ∙ ap (λ (i : ℕ). i + 3) (length-tab n _)

-- ---- the lines of an output

abbrev pub pattern_text : ℕ → List Pattern → List ℕ
pattern_text n ps = joined (map cube_line (map (cube_of n) ps))

text-append : (n : ℕ) (ps qs : List Pattern) → pattern_text n (ps ++ qs) ≡ pattern_text n ps ++ pattern_text n qs
unfolding joined
text-append n [] qs = refl
text-append n (p ∷ ps) qs =
    ap (λ (t : List ℕ). cube_line (cube_of n p) ++ t) (text-append n ps qs)
    ∙ sym (append_assoc (cube_line (cube_of n p)) (pattern_text n ps) (pattern_text n qs))

-- the line that a row brings to an output where its word's bit is d
abbrev pub chosen_text : ℕ → ℕ → ℕ → ℕ → List ℕ
chosen_text n d m v = cond (eqb d 0) [] (cube_line (cube_of n (pattern m v)))

patterns-append : (j : ℕ) (rs ss : List Row) → patterns_of j (rs ++ ss) ≡ patterns_of j rs ++ patterns_of j ss
unfolding patterns_of
patterns-append j [] ss = refl
patterns-append j (r ∷ rs) ss = go (eqb (bit r.word j) 0) (patterns-append j rs ss)
  where
    go : (b : Bool) → patterns_of j (rs ++ ss) ≡ patterns_of j rs ++ patterns_of j ss
        → cond b (patterns_of j (rs ++ ss)) (pattern r.mask r.values ∷ patterns_of j (rs ++ ss))
        ≡ cond b (patterns_of j rs) (pattern r.mask r.values ∷ patterns_of j rs) ++ patterns_of j ss
    go true ih = ih
    go false ih = ap (λ (l : List Pattern). pattern r.mask r.values ∷ l) ih

one-text : (n j : ℕ) (r : Row) → pattern_text n (patterns_of j (r ∷ [])) ≡ chosen_text n (bit r.word j) r.mask r.values
unfolding patterns_of joined
one-text n j r = go (eqb (bit r.word j) 0)
  where
    line : List ℕ
    line = cube_line (cube_of n (pattern r.mask r.values))

    go : (b : Bool) → pattern_text n (cond b [] (pattern r.mask r.values ∷ [])) ≡ cond b [] line
    go true = refl
    go false = append-nil line

pub patterns-more : (n j i : ℕ) (masks values words : List ℕ)
    → pattern_text n (patterns_of j (rows_from (i + 1) masks values words))
    ≡ pattern_text n (patterns_of j (rows_from i masks values words)) ++ chosen_text n (bit (at words i) j) (at masks i) (at values i)
patterns-more n j i masks values words =
    rw (add-one i, tab-suc i f)
    (ap (pattern_text n) (patterns-append j (tab i f) (f i ∷ []))
    ∙ text-append n (patterns_of j (tab i f)) (patterns_of j (f i ∷ []))
    ∙ ap (λ (t : List ℕ). pattern_text n (patterns_of j (tab i f)) ++ t) (one-text n j (f i)))
  where
    f : ℕ → Row
    f i = row (at masks i) (at values i) (at words i)

pub patterns-none : (n j : ℕ) (masks values words : List ℕ) → pattern_text n (patterns_of j (rows_from 0 masks values words)) ≡ []
unfolding patterns_of joined tab
patterns-none n j masks values words = refl

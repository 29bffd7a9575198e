-- Names hold no space and no LF, so a line of names says which names they are (`words-apart`, `words-on`), and ends at its only LF. Lines
-- joined and cut at LF again are the same lines (`lines-joined`); a text cut and joined is the same text (`joined-lines`). Assumes nothing.
use Rattle.std.specs.Prelude.{◌≡◌, refl, Bool, true, false, not, cond, ◌&&◌, ◌||◌, List, [], ◌∷◌, ◌++◌, ℕ, zero, suc, ◌+◌, ◌<◌, eqb, length}
use Rattle.std.proofs.Common.{sym, ap, ap₂, ◌∙◌, append_assoc, append-nil, arith, ne_eqb, eqb-true}
use Rattle.std.proofs.lemmas.Bool.{not-true}
use Rattle.slices.specs.Places.{at, tab}
use Rattle.slices.specs.Tests.{and_both}
use Rattle.block.specs.Text.{decimal, equal, every, lines, onto}
use Rattle.read_laws.specs.Front.{no_lf}
use Rattle.read_laws.specs.Tests.{every-all, every_append, not-both}
use Rattle.block.specs.Covers.{pieces, nonempty, words_on}
use Rattle.block.specs.Model.{x_name, y_name, z_name, part_name, spaced, word_line, joined}
use Rattle.model_laws.specs.Names.{digit_at, unequal}

-- a space or LF
abbrev pub stops : ℕ → Bool
stops b = eqb b 32 || eqb b 10

-- no byte is a space or LF
abbrev pub clean : List ℕ → Bool
clean m = every (λ b. not (stops b)) m

decimal-clean : (v : ℕ) → clean (decimal v) ≡ true
decimal-clean v =
    every-all (λ b. not (stops b)) (decimal v)
    (λ i h. let d = digit_at v i h in rw (ne_eqb (at (decimal v) i) 32 (omega arith), ne_eqb (at (decimal v) i) 10 (omega arith)))

-- a name is a word: clean, and not empty
abbrev pub IsWord : List ℕ → Type 0
IsWord m = (clean m ≡ true) × (0 < length m)

-- a letter and a number
pub name-word : (c v : ℕ) → stops c ≡ false → IsWord (c ∷ decimal v)
unfolding every
name-word c v e = (rw e (decimal-clean v), omega arith)

pub x-word : (i : ℕ) → IsWord (x_name i)
x-word i = name-word 120 i refl

pub y-word : (i : ℕ) → IsWord (y_name i)
y-word i = name-word 121 i refl

pub z_word : (i : ℕ) → IsWord (z_name i)
z_word i = name-word 122 i refl

pub part-word : (i p : ℕ) → IsWord (part_name i p)
unfolding every
part-word i p = (every_append (λ b. not (stops b)) (decimal i) (95 ∷ decimal p) (decimal-clean i) (decimal-clean p), omega arith)

-- each is a word
unfoldable pub AllWords : List (List ℕ) → Type 0
AllWords [] = Unit
AllWords (m ∷ ms) = IsWord m × AllWords ms

pub words_more : (ms : List (List ℕ)) (m : List ℕ) → AllWords ms → IsWord m → AllWords (ms ++ (m ∷ []))
unfolding AllWords
words_more [] m h k = (k, tt)
words_more (l ∷ ms) m h k = (h.0, words_more ms m h.1 k)

pub words-tab : (f : ℕ → List ℕ) → ((i : ℕ) → IsWord (f i)) → (n : ℕ) → AllWords (tab n f)
unfolding AllWords tab
words-tab f h zero = tt
words-tab f h (suc n) = words_more (tab n f) (f n) (words-tab f h n) (h n)

pub three-words : (m : List ℕ) (b : ℕ) (t : List ℕ) → IsWord m → IsWord t → AllWords (m ∷ x_name b ∷ t ∷ [])
unfolding AllWords
three-words m b t h k = (h, (x-word b, (k, tt)))

-- ---- a line of names says its names

-- begins with a space or LF
abbrev stopped : List ℕ → Bool
stopped [] = false
stopped (b ∷ bs) = stops b

cut : (m l s t : List ℕ) → clean m ≡ true → clean l ≡ true → stopped s ≡ true → stopped t ≡ true → m ++ s ≡ l ++ t → (m ≡ l) × (s ≡ t)
unfolding every
cut [] [] s t cm cl hs ht e = (refl, e)
cut [] (y ∷ l) s t cm cl hs ht e =
    let a = and_both (not (stops y)) (clean l) cl in
    let b : stops y ≡ true = sym (ap stopped e) ∙ hs in
    not-both (stops y) b (not-true (stops y) a.0)
cut (x ∷ m) [] s t cm cl hs ht e =
    let a = and_both (not (stops x)) (clean m) cm in
    let b : stops x ≡ true = ap stopped e ∙ ht in
    not-both (stops x) b (not-true (stops x) a.0)
cut (x ∷ m) (y ∷ l) s t cm cl hs ht e =
    let q : x ≡ y = cc in
    let r = cut m l s t (and_both (not (stops x)) (clean m) cm).1 (and_both (not (stops y)) (clean l) cl).1 hs ht (cc) in
    (ap₂ ◌∷◌ q r.0, r.1)

spaced-stops : (ms : List (List ℕ)) → stopped (spaced ms ++ (10 ∷ [])) ≡ true
unfolding spaced
spaced-stops [] = refl
spaced-stops (m ∷ ms) = refl

spaced-same : (ms ls : List (List ℕ)) → AllWords ms → AllWords ls → spaced ms ++ (10 ∷ []) ≡ spaced ls ++ (10 ∷ []) → ms ≡ ls
unfolding spaced AllWords
spaced-same [] [] cm cl e = refl
spaced-same [] (l ∷ ls) cm cl e = let z : ◌≡◌ {A = ℕ} 10 32 = ap (λ (s : List ℕ). at s 0) e in absurd (omega arith)
spaced-same (m ∷ ms) [] cm cl e = let z : ◌≡◌ {A = ℕ} 32 10 = ap (λ (s : List ℕ). at s 0) e in absurd (omega arith)
spaced-same (m ∷ ms) (l ∷ ls) cm cl e =
    let g : (m ++ spaced ms) ++ (10 ∷ []) ≡ (l ++ spaced ls) ++ (10 ∷ []) = cc in
    let f : m ++ (spaced ms ++ (10 ∷ [])) ≡ l ++ (spaced ls ++ (10 ∷ [])) = sym (append_assoc m (spaced ms) (10 ∷ [])) ∙ g
    ∙ append_assoc l (spaced ls) (10 ∷ []) in
    let r = cut m l (spaced ms ++ (10 ∷ [])) (spaced ls ++ (10 ∷ [])) cm.0.0 cl.0.0 (spaced-stops ms) (spaced-stops ls) f in
    ap₂ ◌∷◌ r.0 (spaced-same ms ls cm.1 cl.1 r.1)

word_same : (w s t : List ℕ) → w ++ s ≡ w ++ t → s ≡ t
word_same [] s t e = e
word_same (x ∷ w) s t e = word_same w s t (cc)

-- lines of one word with different names are different
pub words-apart : (w : List ℕ) (ms ls : List (List ℕ)) → AllWords ms → AllWords ls → (ms ≡ ls → ⊥)
    → equal (word_line w ms) (word_line w ls) ≡ false
words-apart w ms ls cm cl h =
    unequal (word_line w ms) (word_line w ls)
    (λ e. h (spaced-same ms ls cm cl
    (word_same w (spaced ms ++ (10 ∷ [])) (spaced ls ++ (10 ∷ []))
    (sym (append_assoc w (spaced ms) (10 ∷ [])) ∙ e ∙ append_assoc w (spaced ls) (10 ∷ [])))))

-- ---- the words on a line

piece-word : (m : List ℕ) (b : ℕ) (t : List ℕ) → clean m ≡ true → stops b ≡ true → pieces (m ++ (b ∷ t)) ≡ m ∷ pieces t
unfolding pieces every
piece-word [] b t e s = rw s
piece-word (x ∷ m) b t e s =
    let a = and_both (not (stops x)) (clean m) e in
    rw (not-true (stops x) a.0) (ap (onto x) (piece-word m b t a.1 s))

line-pieces : (w : List ℕ) (ms : List (List ℕ)) → clean w ≡ true → AllWords ms
    → pieces (w ++ (spaced ms ++ (10 ∷ []))) ≡ w ∷ ms ++ ([] ∷ [])
unfolding AllWords spaced pieces
line-pieces w [] e h = piece-word w 10 [] e refl
line-pieces w (m ∷ ms) e h =
    piece-word w 32 ((m ++ spaced ms) ++ (10 ∷ [])) e refl
    ∙ ap (λ (t : List ℕ). w ∷ pieces t) (append_assoc m (spaced ms) (10 ∷ []))
    ∙ ap (λ (t : List (List ℕ)). w ∷ t) (line-pieces m ms h.0.0 h.1)

words-kept : (ms : List (List ℕ)) → AllWords ms → nonempty (ms ++ ([] ∷ [])) ≡ ms
unfolding AllWords nonempty
words-kept [] h = refl
words-kept ([] ∷ ms) h = absurd (omega (arith, h.0.1))
words-kept ((b ∷ m) ∷ ms) h = ap (λ (t : List (List ℕ)). (b ∷ m) ∷ t) (words-kept ms h.1)

-- a word and names after it are the words on their line
pub words-on : (w : List ℕ) (ms : List (List ℕ)) → IsWord w → AllWords ms → words_on (word_line w ms) ≡ w ∷ ms
unfolding AllWords
words-on w ms e h =
    ap words_on (append_assoc w (spaced ms) (10 ∷ [])) ∙ ap nonempty (line-pieces w ms e.0 h) ∙ words-kept (w ∷ ms) (e, h)

-- ---- lines

-- the only LF is the last byte
unfoldable pub is_line : List ℕ → Bool
is_line [] = false
is_line (b ∷ []) = eqb b 10
is_line (b ∷ c ∷ bs) = not (eqb b 10) && is_line (c ∷ bs)

-- each is a line
unfoldable pub AllLines : List (List ℕ) → Type 0
AllLines [] = Unit
AllLines (l ∷ ls) = (is_line l ≡ true) × AllLines ls

pub lines-all : (ls ks : List (List ℕ)) → AllLines ls → AllLines ks → AllLines (ls ++ ks)
unfolding AllLines
lines-all [] ks h k = k
lines-all (l ∷ ls) ks h k = (h.0, lines-all ls ks h.1 k)

lines-line : (l t : List ℕ) → is_line l ≡ true → lines (l ++ t) ≡ l ∷ lines t
unfolding is_line lines
lines-line [] t e = let z : ◌≡◌ {A = ℕ} 0 1 = cc in absurd (omega arith)
lines-line (b ∷ []) t e = rw e (ap (λ (x : ℕ). (x ∷ []) ∷ lines t) (sym (eqb-true b 10 e)))
lines-line (b ∷ c ∷ bs) t e =
    let a = and_both (not (eqb b 10)) (is_line (c ∷ bs)) e in
    rw (not-true (eqb b 10) a.0) (ap (onto b) (lines-line (c ∷ bs) t a.1))

-- lines before a text
pub lines-before : (ls : List (List ℕ)) (t : List ℕ) → AllLines ls → lines (joined ls ++ t) ≡ ls ++ lines t
unfolding AllLines joined
lines-before [] t h = refl
lines-before (l ∷ ls) t h =
    ap lines (append_assoc l (joined ls) t)
    ∙ lines-line l (joined ls ++ t) h.0
    ∙ ap (λ (ks : List (List ℕ)). l ∷ ks) (lines-before ls t h.1)

pub lines-joined : (ls : List (List ℕ)) → AllLines ls → lines (joined ls) ≡ ls
unfolding lines
lines-joined ls h = ap lines (sym (append-nil (joined ls))) ∙ lines-before ls [] h ∙ append-nil ls

pub joined-append : (ls ms : List (List ℕ)) → joined (ls ++ ms) ≡ joined ls ++ joined ms
unfolding joined
joined-append [] ms = refl
joined-append (l ∷ ls) ms = ap (λ (t : List ℕ). l ++ t) (joined-append ls ms) ∙ sym (append_assoc l (joined ls) (joined ms))

onto-joined : (b : ℕ) (ls : List (List ℕ)) → joined (onto b ls) ≡ b ∷ joined ls
unfolding joined
onto-joined b [] = refl
onto-joined b (l ∷ ls) = refl

pub joined-lines : (t : List ℕ) → joined (lines t) ≡ t
unfolding lines joined
joined-lines [] = refl
joined-lines (b ∷ bs) = go (eqb b 10) refl (joined-lines bs)
  where
    go : (a : Bool) → eqb b 10 ≡ a → joined (lines bs) ≡ bs → joined (cond a ((10 ∷ []) ∷ lines bs) (onto b (lines bs))) ≡ b ∷ bs
    go true e ih = ap₂ ◌∷◌ (sym (eqb-true b 10 e)) ih
    go false e ih = onto-joined b (lines bs) ∙ ap (λ (s : List ℕ). b ∷ s) ih

-- bytes without LF, and LF
pub line-ends : (s : List ℕ) → no_lf s ≡ true → is_line (s ++ (10 ∷ [])) ≡ true
unfolding is_line every
line-ends [] e = refl
line-ends (b ∷ []) e = ap₂ ◌&&◌ (and_both (not (eqb b 10)) true e).0 refl
line-ends (b ∷ c ∷ s) e = let a = and_both (not (eqb b 10)) (no_lf (c ∷ s)) e in ap₂ ◌&&◌ a.0 (line-ends (c ∷ s) a.1)

pub clean-no_lf : (m : List ℕ) → clean m ≡ true → no_lf m ≡ true
unfolding every
clean-no_lf [] e = refl
clean-no_lf (b ∷ m) e = let a = and_both (not (stops b)) (clean m) e in ap₂ ◌&&◌ (go (eqb b 32) (eqb b 10) a.0) (clean-no_lf m a.1)
  where
    go : (x y : Bool) → not (x || y) ≡ true → not y ≡ true
    go true y e = let z : ◌≡◌ {A = ℕ} 0 1 = cc in absurd (omega arith)
    go false y e = e

spaced-no_lf : (ms : List (List ℕ)) → AllWords ms → no_lf (spaced ms) ≡ true
unfolding spaced AllWords every
spaced-no_lf [] h = refl
spaced-no_lf (m ∷ ms) h = every_append (λ b. not (eqb b 10)) m (spaced ms) (clean-no_lf m h.0.0) (spaced-no_lf ms h.1)

-- a word and names make a line
pub word-line : (w : List ℕ) (ms : List (List ℕ)) → no_lf w ≡ true → AllWords ms → is_line (word_line w ms) ≡ true
word-line w ms h k = line-ends (w ++ spaced ms) (every_append (λ b. not (eqb b 10)) w (spaced ms) h (spaced-no_lf ms k))

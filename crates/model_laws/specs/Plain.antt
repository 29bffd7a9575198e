-- The covers of a model are plain: their names are words, and their symbols words that begin with no dot. So each of their lines is one
-- line, and the lines say the covers again (`lines-say`). Assumes nothing.
use Rattle.std.specs.Prelude.{◌≡◌, refl, Bool, true, false, not, cond, List, [], ◌∷◌, ◌++◌, map, ℕ, zero, suc, ◌+◌, ◌-◌, ◌≤◌, eqb, length, take, drop}
use Rattle.std.proofs.Common.{sym, ap, ap₂, ◌∙◌, append_assoc, append-nil, arith, ne_eqb, length-append, take_at}
use Rattle.std.proofs.Math.Seq.{get_or-append_seam}
use Rattle.bits.specs.Digits.{bit}
use Rattle.slices.specs.Places.{at, tab}
use Rattle.slices.specs.Filled.{length-tab, tab-at}
use Rattle.block.specs.Text.{equal, every}
use Rattle.block.specs.Covers.{Cover, cover, model_word, names_word, inputs_word, outputs_word, pieces, nonempty, words_on, word_in, Listed, listed, cover_of, with_line, lines_say, names_after}
use Rattle.block.specs.Model.{x_name, y_name, z_name, part_name, symbol_of, xor_cover, chain, row_covers, inputs_of, front_covers, cube_of, back_covers, model_covers, spaced, word_line, block_name, names_line, cube_line, cover_lines, last_line, model_lines}
use Rattle.block.specs.declared.Pattern.{Pattern}
use Rattle.read_laws.specs.Tests.{equal-same, every-all}
use Rattle.model_laws.specs.WordLines.{stops, IsWord, AllWords, x-word, y-word, z_word, part-word, words_more, words-tab, three-words, words-on, is_line, AllLines, lines-all, clean-no_lf, word-line}

-- ---- plain covers

-- symbols: a word with no dot before it
abbrev pub IsCube : List ℕ → Type 0
IsCube s = IsWord s × (eqb (at s 0) 46 ≡ false)

unfoldable pub AllCubes : List (List ℕ) → Type 0
AllCubes [] = Unit
AllCubes (s ∷ ss) = IsCube s × AllCubes ss

pub record Plain (c : Cover) : Type 0 where
  pub names : AllWords (c.inputs ++ (c.output ∷ []))
  pub cubes : AllCubes c.cubes

unfoldable pub AllPlain : List Cover → Type 0
AllPlain [] = Unit
AllPlain (c ∷ cs) = Plain c × AllPlain cs

plain-append : (cs ds : List Cover) → AllPlain cs → AllPlain ds → AllPlain (cs ++ ds)
unfolding AllPlain
plain-append [] ds h k = k
plain-append (c ∷ cs) ds h k = (h.0, plain-append cs ds h.1 k)

-- ---- those of a model are plain

xor-plain : (from : List ℕ) (b : ℕ) (to : List ℕ) → IsWord from → IsWord to → Plain (xor_cover from b to)
unfolding AllCubes every
xor-plain from b to h k =
    record { names = three-words from b to h k; cubes = (((refl, omega arith), refl), (((refl, omega arith), refl), tt)) }

chain-plain : (i : ℕ) (bs from : List ℕ) (p : ℕ) → IsWord from → AllPlain (chain i from p bs)
unfolding chain AllPlain
chain-plain i [] from p h = tt
chain-plain i (b ∷ []) from p h = (xor-plain from b (z_name i) h (z_word i), tt)
chain-plain i (b ∷ c ∷ bs) from p h =
    (xor-plain from b (part_name i p) h (part-word i p), chain-plain i (c ∷ bs) (part_name i p) (suc p) (part-word i p))

row_plain : (i : ℕ) (us : List ℕ) → AllPlain (row_covers i us)
unfolding row_covers AllPlain AllWords AllCubes every
row_plain i [] = tt
row_plain i (a ∷ []) = (record { names = (x-word a, (z_word i, tt)); cubes = (((refl, omega arith), refl), tt) }, tt)
row_plain i (a ∷ b ∷ bs) = chain-plain i (b ∷ bs) (x_name a) 1 (x-word a)

front-plain : (n : ℕ) (s : ℕ → ℕ) (i : ℕ) → AllPlain (front_covers n s i)
unfolding front_covers AllPlain
front-plain n s zero = tt
front-plain n s (suc i) =
    plain-append (front_covers n s i) (row_covers i (inputs_of n (s i))) (front-plain n s i) (row_plain i (inputs_of n (s i)))

-- a symbol is neither a space nor LF nor a dot
symbol-apart : (m v : ℕ) → (stops (symbol_of m v) ≡ false) × (eqb (symbol_of m v) 46 ≡ false)
symbol-apart m v = go (eqb m 0)
  where
    go : (b : Bool) → (stops (cond b 45 (48 + v)) ≡ false) × (eqb (cond b 45 (48 + v)) 46 ≡ false)
    go true = (refl, refl)
    go false =
        (rw (ne_eqb (48 + v) 32 (λ e. omega arith), ne_eqb (48 + v) 10 (λ e. omega arith)), ne_eqb (48 + v) 46 (λ e. omega arith))

cube-plain : (n : ℕ) (p : Pattern) → 1 ≤ n → IsCube (cube_of n p)
cube-plain n p h = (
  (
    every-all (λ b. not (stops b)) (tab n f)
        (λ i l.
        ap (λ (b : ℕ). not (stops b)) (tab-at n f 0 i (rw (length-tab n f) at l))
        ∙ ap not (symbol-apart (bit p.mask i) (bit p.values i)).0),
    omega (arith, length-tab n f),
  ),
  ap (λ (b : ℕ). eqb b 46) (tab-at n f 0 0 (omega arith)) ∙ (symbol-apart (bit p.mask 0) (bit p.values 0)).1,
)
  where
    f : ℕ → ℕ
    f i = symbol_of (bit p.mask i) (bit p.values i)

cubes-plain : (n : ℕ) (ps : List Pattern) → 1 ≤ n → AllCubes (map (cube_of n) ps)
unfolding AllCubes
cubes-plain n [] h = tt
cubes-plain n (p ∷ ps) h = (cube-plain n p h, cubes-plain n ps h)

back-plain : (n j : ℕ) (qs : List (List Pattern)) → 1 ≤ n → AllPlain (back_covers n j qs)
unfolding back_covers AllPlain
back-plain n j [] h = tt
back-plain n j (ps ∷ qs) h = (
  record { names = words_more (tab n z_name) (y_name j) (words-tab z_name z_word n) (y-word j); cubes = cubes-plain n ps h },
  back-plain n (suc j) qs h,
)

pub model-plain : (n : ℕ) (sigma : List ℕ) (qs : List (List Pattern)) → 1 ≤ n → AllPlain (model_covers n sigma qs)
unfolding model_covers
model-plain n sigma qs h =
    plain-append (front_covers n (at sigma) n) (back_covers n 0 qs) (front-plain n (at sigma) n) (back-plain n 0 qs h)

-- ---- their lines are lines

cube-form : (s : List ℕ) → cube_line s ≡ word_line s ((49 ∷ []) ∷ [])
unfolding spaced
cube-form s = sym (append_assoc s (32 ∷ 49 ∷ []) (10 ∷ []))

one_word : AllWords ((49 ∷ []) ∷ [])
unfolding AllWords every
one_word = ((refl, omega arith), tt)

cube-lines : (ss : List (List ℕ)) → AllCubes ss → AllLines (map cube_line ss)
unfolding AllCubes AllLines
cube-lines [] h = tt
cube-lines (s ∷ ss) h = (ap is_line (cube-form s) ∙ word-line s ((49 ∷ []) ∷ []) (clean-no_lf s h.0.0.0) one_word, cube-lines ss h.1)

cover-lines : (cs : List Cover) → AllPlain cs → AllLines (cover_lines cs)
unfolding AllPlain cover_lines AllLines every
cover-lines [] h = tt
cover-lines (c ∷ cs) h = (
  word-line names_word (c.inputs ++ (c.output ∷ [])) refl h.0.names,
  lines-all (map cube_line c.cubes) (cover_lines cs) (cube-lines c.cubes h.0.cubes) (cover-lines cs h.1),
)

-- every line of a model is one
pub model-lines : (n k : ℕ) (cs : List Cover) → AllPlain cs → AllLines (model_lines n k cs)
unfolding model_lines AllLines is_line spaced every
model-lines n k cs h = (
  refl,
  (
    word-line inputs_word (tab n x_name) refl (words-tab x_name x-word n),
    (
      word-line outputs_word (tab k y_name) refl (words-tab y_name y-word k),
      lines-all (cover_lines cs) (last_line ∷ []) (cover-lines cs h) (refl, tt),
    ),
  ),
)

-- ---- and say the covers

last-names : (ms : List (List ℕ)) (m : List ℕ) (ss : List (List ℕ)) → cover_of (ms ++ (m ∷ [])) ss ≡ cover ms m ss
last-names ms m ss =
    let e : length (ms ++ (m ∷ [])) - 1 ≡ length ms = omega (arith, length-append ms (m ∷ [])) in
    ap (λ (i : ℕ). cover (take i (ms ++ (m ∷ []))) (word_in (ms ++ (m ∷ [])) i) ss) e
    ∙ ap₂ (λ (a : List (List ℕ)) (b : List ℕ). cover a b ss) (take_at ms (m ∷ []) (length ms) refl) (get_or-append_seam ms m [] [])

names-said : (c : Cover) (s : Listed) → Plain c
    → with_line (words_on (names_line c)) s ≡ listed [] (cover c.inputs c.output s.cubes ∷ s.covers)
unfolding with_line every equal
names-said c s h =
    ap (λ (ws : List (List ℕ)). with_line ws s) (words-on names_word (c.inputs ++ (c.output ∷ [])) (refl, omega arith) h.names)
    ∙ ap (λ (d : Cover). listed [] (d ∷ s.covers)) (last-names c.inputs c.output s.cubes)

-- a word that begins with no dot is not ".names"
dotless : (w : List ℕ) → IsCube w → equal w names_word ≡ false
unfolding equal
dotless [] h = refl
dotless (b ∷ w) h = rw h.1

cube-said : (w : List ℕ) (s : Listed) → IsCube w → with_line (words_on (cube_line w)) s ≡ listed (w ∷ s.cubes) s.covers
unfolding with_line equal
cube-said w s h =
    ap (λ (l : List ℕ). with_line (words_on l) s) (cube-form w)
    ∙ ap (λ (ws : List (List ℕ)). with_line ws s) (words-on w ((49 ∷ []) ∷ []) h.0 one_word)
    ∙ rw (dotless w h, h.1)

cubes-said : (ss ls : List (List ℕ)) → AllCubes ss
    → lines_say (map cube_line ss ++ ls) ≡ listed (ss ++ (lines_say ls).cubes) (lines_say ls).covers
unfolding lines_say AllCubes
cubes-said [] ls h = refl
cubes-said (s ∷ ss) ls h =
    cube-said s (lines_say (map cube_line ss ++ ls)) h.0
    ∙ ap (λ (t : Listed). listed (s ∷ t.cubes) t.covers) (cubes-said ss ls h.1)

covers-said : (cs : List Cover) → AllPlain cs → lines_say (cover_lines cs ++ (last_line ∷ [])) ≡ listed [] cs
unfolding lines_say cover_lines AllPlain with_line equal nonempty pieces spaced
covers-said [] h = refl
covers-said (c ∷ cs) h =
    names-said c (lines_say ((map cube_line c.cubes ++ cover_lines cs) ++ (last_line ∷ []))) h.0
    ∙ ap (λ (t : Listed). listed [] (cover c.inputs c.output t.cubes ∷ t.covers))
    (ap lines_say (append_assoc (map cube_line c.cubes) (cover_lines cs) (last_line ∷ []))
    ∙ cubes-said c.cubes (cover_lines cs ++ (last_line ∷ [])) h.0.cubes
    ∙ ap (λ (t : Listed). listed (c.cubes ++ t.cubes) t.covers) (covers-said cs h.1)
    ∙ ap (λ (ss : List (List ℕ)). listed ss cs) (append-nil c.cubes))

-- a line with another keyword says no cover
key-said : (key : List ℕ) (ms : List (List ℕ)) (s : Listed) → IsWord key → AllWords ms → equal key names_word ≡ false
    → eqb (at key 0) 46 ≡ true
    → (with_line (words_on (word_line key ms)) s).covers ≡ s.covers
unfolding with_line
key-said key ms s h k e d = ap (λ (ws : List (List ℕ)). (with_line ws s).covers) (words-on key ms h k) ∙ rw (e, d)

title-words : AllWords (block_name ∷ [])
unfolding AllWords every
title-words = ((refl, omega arith), tt)

pub lines-say : (n k : ℕ) (cs : List Cover) → AllPlain cs → (lines_say (model_lines n k cs)).covers ≡ cs
unfolding lines_say model_lines equal every
lines-say n k cs h =
    key-said model_word (block_name ∷ []) _ (refl, omega arith) title-words refl refl
    ∙ key-said inputs_word (tab n x_name) _ (refl, omega arith) (words-tab x_name x-word n) refl refl
    ∙ key-said outputs_word (tab k y_name) _ (refl, omega arith) (words-tab y_name y-word k) refl refl
    ∙ ap (λ (t : Listed). t.covers) (covers-said cs h)

-- ---- the names of the inputs and of the outputs

-- the first line with the keyword, and a line with another
key-names : (key : List ℕ) (ms ls : List (List ℕ)) → IsWord key → AllWords ms → names_after key (word_line key ms ∷ ls) ≡ ms
unfolding names_after
key-names key ms ls h k =
    ap (λ (ws : List (List ℕ)). cond (equal (word_in ws 0) key) (drop 1 ws) (names_after key ls)) (words-on key ms h k) ∙ rw (equal-same key)

key-other : (key other : List ℕ) (ms ls : List (List ℕ)) → IsWord other → AllWords ms → equal other key ≡ false
    → names_after key (word_line other ms ∷ ls) ≡ names_after key ls
unfolding names_after
key-other key other ms ls h k e =
    ap (λ (ws : List (List ℕ)). cond (equal (word_in ws 0) key) (drop 1 ws) (names_after key ls)) (words-on other ms h k) ∙ rw e

pub inputs-named : (n k : ℕ) (cs : List Cover) → names_after inputs_word (model_lines n k cs) ≡ tab n x_name
unfolding model_lines equal every
inputs-named n k cs =
    key-other inputs_word model_word (block_name ∷ []) _ (refl, omega arith) title-words refl
    ∙ key-names inputs_word (tab n x_name) _ (refl, omega arith) (words-tab x_name x-word n)

pub outputs-named : (n k : ℕ) (cs : List Cover) → names_after outputs_word (model_lines n k cs) ≡ tab k y_name
unfolding model_lines equal every
outputs-named n k cs =
    key-other outputs_word model_word (block_name ∷ []) _ (refl, omega arith) title-words refl
    ∙ key-other outputs_word inputs_word (tab n x_name) _ (refl, omega arith) (words-tab x_name x-word n) refl
    ∙ key-names outputs_word (tab k y_name) _ (refl, omega arith) (words-tab y_name y-word k)

-- BLIF in general (02, Ticket 4: "Evaluating the written model at x"): covers, what they compute, and the word that a text of covers gives
-- at a point, from its lines alone: a cover is 1 where some line of it agrees. A name is the list of its bytes. Nothing here knows of
-- matrices, of rows or of the models that are written (`Model`). Assumes nothing.
use Rattle.std.specs.Prelude.{Bool, true, false, cond, ◌&&◌, ◌||◌, List, [], ◌∷◌, ℕ, ◌+◌, ◌-◌, ◌*◌, ◌/◌, ◌%◌, ◌^◌, eqb, length, get_or, take, drop}
use Rattle.slices.specs.Places.{at}
use Rattle.sums.specs.Sums.{sum, one}
use Rattle.block.specs.Text.{lines, onto, equal}

-- ---- covers, and what they compute

-- one cover: the names of its inputs, the name that it defines, and its lines of symbols
pub record Cover : Type 0 where
  pub inputs : List (List ℕ)
  pub output : List ℕ
  pub cubes : List (List ℕ)

abbrev pub cover : List (List ℕ) → List ℕ → List (List ℕ) → Cover
cover ms m cs = record { inputs = ms; output = m; cubes = cs }

-- the line's symbols agree with the values of the names: - with any, else the digit itself
unfoldable pub matches : (List ℕ → ℕ) → List (List ℕ) → List ℕ → Bool
matches env [] [] = true
matches env [] (s ∷ ss) = false
matches env (m ∷ ms) [] = false
matches env (m ∷ ms) (s ∷ ss) = (eqb s 45 || eqb s (48 + env m)) && matches env ms ss

-- some line agrees
unfoldable pub covered : (List ℕ → ℕ) → List (List ℕ) → List (List ℕ) → Bool
covered env ms [] = false
covered env ms (c ∷ cs) = matches env ms c || covered env ms cs

-- the values with one name defined anew
abbrev pub bound : List ℕ → ℕ → (List ℕ → ℕ) → List ℕ → ℕ
bound name v env m = cond (equal m name) v (env m)

-- the values of all names after the covers, each of which defines its name
unfoldable pub evaluated : (List ℕ → ℕ) → List Cover → List ℕ → ℕ
evaluated env [] = env
evaluated env (c ∷ cs) = evaluated (bound c.output (one (covered env c.inputs c.cubes)) env) cs

-- the inputs' values at the point x: the first has x's lowest bit; every other name has 0
unfoldable pub given : List (List ℕ) → ℕ → List ℕ → ℕ
given [] x m = 0
given (name ∷ names) x m = bound name (x % 2) (given names (x / 2)) m

-- ---- the keywords ".model", ".inputs", ".outputs", ".names" and ".end"

abbrev pub model_word : List ℕ
model_word = 46 ∷ 109 ∷ 111 ∷ 100 ∷ 101 ∷ 108 ∷ []

abbrev pub inputs_word : List ℕ
inputs_word = 46 ∷ 105 ∷ 110 ∷ 112 ∷ 117 ∷ 116 ∷ 115 ∷ []

abbrev pub outputs_word : List ℕ
outputs_word = 46 ∷ 111 ∷ 117 ∷ 116 ∷ 112 ∷ 117 ∷ 116 ∷ 115 ∷ []

abbrev pub names_word : List ℕ
names_word = 46 ∷ 110 ∷ 97 ∷ 109 ∷ 101 ∷ 115 ∷ []

abbrev pub end_word : List ℕ
end_word = 46 ∷ 101 ∷ 110 ∷ 100 ∷ []

-- ---- what lines say

-- bytes, cut at spaces and at LF
unfoldable pub pieces : List ℕ → List (List ℕ)
pieces [] = [] ∷ []
pieces (b ∷ bs) = cond (eqb b 32 || eqb b 10) ([] ∷ pieces bs) (onto b (pieces bs))

unfoldable pub nonempty : List (List ℕ) → List (List ℕ)
nonempty [] = []
nonempty ([] ∷ ws) = nonempty ws
nonempty ((b ∷ w) ∷ ws) = (b ∷ w) ∷ nonempty ws

-- the words of a line
abbrev pub words_on : List ℕ → List (List ℕ)
words_on l = nonempty (pieces l)

-- the word i of some words, from 0; the empty one where they have ended
abbrev pub word_in : List (List ℕ) → ℕ → List ℕ
word_in ws i = get_or ws i []

-- what some lines say: the symbols on those before the first that begins with a dot, and the covers from there on
pub record Listed : Type 0 where
  pub cubes : List (List ℕ)
  pub covers : List Cover

abbrev pub listed : List (List ℕ) → List Cover → Listed
listed cubes covers = record { cubes = cubes; covers = covers }

-- the cover of the names after ".names": the last is the one that it defines
abbrev pub cover_of : List (List ℕ) → List (List ℕ) → Cover
cover_of names cubes = cover (take (length names - 1) names) (word_in names (length names - 1)) cubes

-- what lines say with one before them, that has these words. A line of symbols counts where a 1 stands after them
unfoldable pub with_line : List (List ℕ) → Listed → Listed
with_line [] s = s
with_line (w ∷ ws) s =
    cond (equal w names_word) (listed [] (cover_of ws s.cubes ∷ s.covers))
    (cond (eqb (at w 0) 46) (listed [] s.covers)
    (cond (equal (word_in ws 0) (49 ∷ [])) (listed (w ∷ s.cubes) s.covers) s))

unfoldable pub lines_say : List (List ℕ) → Listed
lines_say [] = listed [] []
lines_say (l ∷ ls) = with_line (words_on l) (lines_say ls)

-- the names after a keyword, on the first line that begins with it
unfoldable pub names_after : List ℕ → List (List ℕ) → List (List ℕ)
names_after key [] = []
names_after key (l ∷ ls) = cond (equal (word_in (words_on l) 0) key) (drop 1 (words_on l)) (names_after key ls)

-- the word that a text gives at x: its bit j is the value of the j-th output, from 0
unfoldable pub word_at : List ℕ → ℕ → ℕ
word_at text x =
    let ls : List (List ℕ) = lines text in
    let outs : List (List ℕ) = names_after outputs_word ls in
    sum (λ j. evaluated (given (names_after inputs_word ls) x) (lines_say ls).covers (word_in outs j) * 2 ^ j) (length outs)

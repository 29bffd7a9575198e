-- BLIF beside the sheet (02, Ticket 4): the covers of a decomposed block, every byte of its model, and the operation that writes it.
-- Assumes nothing.
use Rattle.std.specs.Prelude.{false, cond, List, [], ◌∷◌, ◌++◌, map, ℕ, zero, suc, ◌+◌, min, eqb, ltb, length, take}
use Rattle.bits.specs.Digits.{bit}
use Rattle.slices.specs.Places.{at, tab}
use Rattle.block.specs.Limits.{given_rows, read_bytes, model_room}
use Rattle.block.specs.Words.{missing, of_rows}
use Rattle.block.specs.Basis.{sigma_of}
use Rattle.block.specs.Refusals.{check, verdict, and_then}
use Rattle.block.specs.Lists.{method_checks, smaller_list}
use Rattle.block.specs.Text.{decimal, with_bytes, read_verdict, inputs_in, outputs_in, type_in, rows_in}
use Rattle.block.specs.Sheet.{or_refused}
use Rattle.block.specs.Covers.{Cover, cover, model_word, inputs_word, outputs_word, names_word, end_word}
use Rattle.block.specs.declared.Row.{Row}
use Rattle.block.specs.declared.Pattern.{Pattern}
use Rattle.block.specs.declared.Answer.{Answer}
use Rattle.block.specs.declared.TextAnswer.{TextAnswer}

-- ---- names ("Inputs are x0.., the rows of sigma z0.., outputs y0..; parts of row i's chain are zi_1, zi_2 ..")

abbrev pub x_name : ℕ → List ℕ
x_name i = 120 ∷ decimal i

abbrev pub y_name : ℕ → List ℕ
y_name j = 121 ∷ decimal j

abbrev pub z_name : ℕ → List ℕ
z_name i = 122 ∷ decimal i

abbrev pub part_name : ℕ → ℕ → List ℕ
part_name i p = 122 ∷ decimal i ++ (95 ∷ decimal p)

-- ---- the covers of a matrix ("for each row of sigma a copy of its input, or a chain of two-input XOR covers from its lowest input up")

-- the one-bits of a row, lowest first
unfoldable pub inputs_of : ℕ → ℕ → List ℕ
inputs_of zero v = []
inputs_of (suc n) v = inputs_of n v ++ cond (eqb (bit v n) 0) [] (n ∷ [])

-- "a copy is 1 1"
abbrev pub copy_cover : ℕ → ℕ → Cover
copy_cover a i = cover (x_name a ∷ []) (z_name i) ((49 ∷ []) ∷ [])

-- "XOR is 01 1, 10 1", "each cover naming the part so far first"
abbrev pub xor_cover : List ℕ → ℕ → List ℕ → Cover
xor_cover from b to = cover (from ∷ x_name b ∷ []) to ((48 ∷ 49 ∷ []) ∷ (49 ∷ 48 ∷ []) ∷ [])

-- what a chain defines next: its part p, "and the last is zi"
abbrev pub link_name : ℕ → ℕ → List ℕ → List ℕ
link_name i p [] = z_name i
link_name i p (b ∷ bs) = part_name i p

-- a chain from the part so far over the inputs that are left
unfoldable pub chain : ℕ → List ℕ → ℕ → List ℕ → List Cover
chain i from p [] = []
chain i from p (b ∷ bs) = xor_cover from b (link_name i p bs) ∷ chain i (link_name i p bs) (suc p) bs

-- row i with these inputs
unfoldable pub row_covers : ℕ → List ℕ → List Cover
row_covers i [] = []
row_covers i (a ∷ []) = copy_cover a i ∷ []
row_covers i (a ∷ b ∷ bs) = chain i (x_name a) 1 (b ∷ bs)

-- the first m rows of sigma
unfoldable pub front_covers : ℕ → (ℕ → ℕ) → ℕ → List Cover
front_covers n s zero = []
front_covers n s (suc i) = front_covers n s i ++ row_covers i (inputs_of n (s i))

-- ---- the covers of the outputs ("one cover per output, lowest first, over all of the z, with the smaller rows that have a 1 there")

abbrev pub pattern : ℕ → ℕ → Pattern
pattern m v = record { mask = m; values = v }

-- the symbol of a mask bit and a value bit
abbrev pub symbol_of : ℕ → ℕ → ℕ
symbol_of m v = cond (eqb m 0) 45 (48 + v)

-- the symbols of a pattern, z0 first ("names and pattern symbols go lowest first")
abbrev pub cube_of : ℕ → Pattern → List ℕ
cube_of n p = tab n (λ i. symbol_of (bit p.mask i) (bit p.values i))

abbrev pub output_cover : ℕ → ℕ → List Pattern → Cover
output_cover n j ps = cover (tab n z_name) (y_name j) (map (cube_of n) ps)

-- outputs j, j + 1, ..
unfoldable pub back_covers : ℕ → ℕ → List (List Pattern) → List Cover
back_covers n j [] = []
back_covers n j (ps ∷ qs) = output_cover n j ps ∷ back_covers n (suc j) qs

-- the patterns of output j: the rows with a 1 there, "in their order"
unfoldable pub patterns_of : ℕ → List Row → List Pattern
patterns_of j [] = []
patterns_of j (r ∷ rs) = cond (eqb (bit r.word j) 0) (patterns_of j rs) (pattern r.mask r.values ∷ patterns_of j rs)

-- the covers of a model: sigma by rows, and the patterns of each output
unfoldable pub model_covers : ℕ → List ℕ → List (List Pattern) → List Cover
model_covers n sigma qs = front_covers n (at sigma) n ++ back_covers n 0 qs

-- ---- the bytes

-- names, each after a space
unfoldable pub spaced : List (List ℕ) → List ℕ
spaced [] = []
spaced (m ∷ ms) = 32 ∷ m ++ spaced ms

-- a keyword and names after it
abbrev pub word_line : List ℕ → List (List ℕ) → List ℕ
word_line w ms = w ++ spaced ms ++ (10 ∷ [])

-- the name "block"
abbrev pub block_name : List ℕ
block_name = 98 ∷ 108 ∷ 111 ∷ 99 ∷ 107 ∷ []

-- ".names", the inputs and the output
abbrev pub names_line : Cover → List ℕ
names_line c = word_line names_word (c.inputs ++ (c.output ∷ []))

-- symbols and " 1"
abbrev pub cube_line : List ℕ → List ℕ
cube_line s = s ++ (32 ∷ 49 ∷ 10 ∷ [])

unfoldable pub cover_lines : List Cover → List (List ℕ)
cover_lines [] = []
cover_lines (c ∷ cs) = names_line c ∷ map cube_line c.cubes ++ cover_lines cs

abbrev pub title_line : List ℕ
title_line = word_line model_word (block_name ∷ [])

abbrev pub inputs_line : ℕ → List ℕ
inputs_line n = word_line inputs_word (tab n x_name)

abbrev pub outputs_line : ℕ → List ℕ
outputs_line k = word_line outputs_word (tab k y_name)

abbrev pub last_line : List ℕ
last_line = word_line end_word []

unfoldable pub model_lines : ℕ → ℕ → List Cover → List (List ℕ)
model_lines n k cs = title_line ∷ inputs_line n ∷ outputs_line k ∷ cover_lines cs ++ (last_line ∷ [])

-- lines, one after the other
unfoldable pub joined : List (List ℕ) → List ℕ
joined [] = []
joined (l ∷ ls) = l ++ joined ls

-- the text of a model
unfoldable pub model_of : ℕ → List ℕ → List (List Pattern) → List ℕ
model_of n sigma qs = joined (model_lines n (length qs) (model_covers n sigma qs))

-- the text of a decomposed block: sigma and the smaller rows
unfoldable pub block_model : ℕ → ℕ → List ℕ → List Row → List ℕ
block_model n k sigma rs = model_of n sigma (tab k (λ j. patterns_of j rs))

-- ---- writing: the refusals of the row method, whose room is the operation's own; "then room below this model's length as 5"

-- the model of a list and a weight limit; m is the word of a missing point
unfoldable pub model_text : ℕ → ℕ → ℕ → ℕ → List Row → List ℕ
model_text m n k w rs = block_model n k (sigma_of (of_rows m rs) n w) (smaller_list m n w rs)

unfoldable pub model_verdict : ℕ → ℕ → ℕ → ℕ → List Row → ℕ → Answer
model_verdict n k y w rs room =
    and_then (verdict (method_checks n k y w rs false))
    (verdict (check (ltb room (length (model_text (missing y) n k w rs))) 5 0 0 ∷ []))

unfoldable pub write_model : ℕ → ℕ → ℕ → ℕ → List Row → ℕ → TextAnswer
write_model n k y w rs room = with_bytes (model_verdict n k y w rs room) (model_text (missing y) n k w rs)

-- ---- the program with --blif: the model in the sheet's place

-- what is printed for a list of type y: weight limit 3, or n where n is below 3
unfoldable pub printed_model_of : ℕ → ℕ → ℕ → List Row → List ℕ
printed_model_of n k y rs = or_refused (model_verdict n k y (min 3 n) rs model_room) (model_text (missing y) n k (min 3 n) rs)

-- what is printed for the text read, at most 8,192 bytes of it, with the type that the text has
unfoldable pub printed_model : List ℕ → List ℕ
printed_model input =
    let text : List ℕ = take read_bytes input in
    or_refused (read_verdict text given_rows) (printed_model_of (inputs_in text) (outputs_in text) (type_in text) (rows_in text))

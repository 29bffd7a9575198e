-- The room for any model (02, Ticket 4): the model of at most 16 inputs, 15 outputs and 512 smaller rows has at most `model_room` bytes
-- (`model-fits`), since names of numbers below 100 are short. So with that room, which the program has, the verdict is the row method's own
-- (`room-enough`), and 5 never comes (`never-short`). Assumes nothing.
use Rattle.std.specs.Prelude.{◌≡◌, Bool, true, cond, ◌&&◌, ℕ, zero, suc, ◌+◌, ◌*◌, ◌^◌, ◌≤◌, ◌<◌, eqb, ltb, length, get_or}
use Rattle.std.proofs.Math.Path.{refl}
use Rattle.std.proofs.Common.{sym, ap, ◌∙◌, mul-le-mul, mul-le-mul_right, arith, length-append}
use Rattle.std.proofs.Math.Bool.{false, and-true, false≢true}
use mathlib.Core.List.{List, [], ◌∷◌, ◌++◌, map, append-nil}
use borrow.Author.Tests.{le-ltb, eq-eqb, eqb-true}
use Rattle.bits.specs.Digits.{bit}
use Rattle.slices.specs.Places.{at, tab}
use Rattle.slices.specs.Filled.{length-tab, tab-at}
use Rattle.block.specs.Limits.{list_inputs, outputs, smaller_rows, model_room}
use Rattle.block.specs.Words.{missing, of_rows}
use Rattle.block.specs.Basis.{sigma_of}
use Rattle.block.specs.Refusals.{Check, check, answer, verdict, answered}
use Rattle.block.specs.Lists.{method_checks, smaller_list}
use Rattle.block.specs.Text.{decimal}
use Rattle.block.specs.Covers.{Cover, names_word, inputs_word, outputs_word}
use Rattle.block.specs.Model.{x_name, y_name, z_name, part_name, inputs_of, copy_cover, xor_cover, chain, row_covers, front_covers, symbol_of, cube_of, output_cover, back_covers, patterns_of, pattern, model_covers, spaced, word_line, names_line, cube_line, cover_lines, inputs_line, outputs_line, last_line, model_lines, joined, model_of, block_model, model_text, model_verdict}
use Rattle.block.specs.declared.Row.{Row}
use Rattle.block.specs.declared.Pattern.{Pattern}
use Rattle.block.specs.declared.Answer.{Answer}
use Rattle.read_laws.specs.Numerals.{numeral-parts, written-numeral}
use Rattle.refusal_laws.specs.Verdicts.{verdict-miss, verdict-then, Numbered}
use Rattle.answered_laws.specs.Passed.{method-answered}
use Rattle.model_laws.specs.Lines.{lines-append}
use Rattle.model_laws.specs.Inputs.{Ascends, inputs-row}
use Rattle.model_laws.specs.WordLines.{joined-append}
use Rattle.model_theorems.specs.Block.{then-zero}

-- ---- names and lines

-- the bytes of lines
abbrev size : List (List ℕ) → ℕ
size ls = length (joined ls)

size-append : (ls ms : List (List ℕ)) → size (ls ++ ms) ≡ size ls + size ms
size-append ls ms = ap length (joined-append ls ms) ∙ length-append (joined ls) (joined ms)

decimal-short : (v : ℕ) → v < 100 → length (decimal v) ≤ 2
decimal-short v h = (numeral-parts 2 (decimal v) (written-numeral 2 20 v (omega arith) (omega arith) h).0).few

part-short : (i p : ℕ) → i < 100 → p < 100 → length (part_name i p) ≤ 6
part-short i p h l = omega (arith, length-append (decimal i) (95 ∷ decimal p), decimal-short i h, decimal-short p l)

line-length : (w : List ℕ) (ms : List (List ℕ)) → length (word_line w ms) ≡ length w + length (spaced ms) + 1
line-length w ms = length-append (w ++ spaced ms) (10 ∷ []) ∙ ap (λ (i : ℕ). i + 1) (length-append w (spaced ms))

spaced-more : (ms : List (List ℕ)) (m : List ℕ) → length (spaced (ms ++ (m ∷ []))) ≡ length (spaced ms) + suc (length m)
unfolding spaced
spaced-more [] m = omega (arith, length-append m [])
spaced-more (l ∷ ms) m = omega (arith, length-append l (spaced (ms ++ (m ∷ []))), length-append l (spaced ms), spaced-more ms m)

-- a letter and a number below 100
names-short : (c n : ℕ) → n ≤ 100 → length (spaced (tab n (λ i. c ∷ decimal i))) ≤ n * 4
unfolding tab spaced
names-short c zero h = omega arith
names-short c (suc n) h =
    omega (arith, spaced-more (tab n (λ i. c ∷ decimal i)) (c ∷ decimal n), names-short c n (omega arith), decimal-short n (omega arith))

-- ---- the rows of sigma

xor-size : (from : List ℕ) (b : ℕ) (to : List ℕ) (cs : List Cover) → length from ≤ 6 → b < 100 → length to ≤ 6
    → size (cover_lines (xor_cover from b to ∷ cs)) ≤ 36 + size (cover_lines cs)
unfolding cover_lines joined spaced
xor-size from b to cs hf hb ht =
    omega (
      arith,
      length-append (names_line (xor_cover from b to)) (cube_line (48 ∷ 49 ∷ []) ++ (cube_line (49 ∷ 48 ∷ []) ++ joined (cover_lines cs))),
      line-length names_word (from ∷ x_name b ∷ to ∷ []),
      length-append from (spaced (x_name b ∷ to ∷ [])),
      length-append (x_name b) (spaced (to ∷ [])),
      length-append to [],
      decimal-short b hb,
    )

chain-size : (n i : ℕ) → n ≤ 100 → i < 100 → (bs from : List ℕ) (m p : ℕ) → Ascends n m bs → p + length bs ≤ 100 → length from ≤ 6
    → size (cover_lines (chain i from p bs)) ≤ length bs * 36
unfolding chain cover_lines joined Ascends
chain-size n i hn hi [] from m p h l s = omega arith
chain-size n i hn hi (b ∷ []) from m p h l s =
    omega (arith, xor-size from b (z_name i) [] s (omega (arith, h.1)) (omega (arith, decimal-short i hi)))
chain-size n i hn hi (b ∷ c ∷ bs) from m p h l s =
    omega (
      arith,
      xor-size from b (part_name i p) (chain i (part_name i p) (suc p) (c ∷ bs)) s (omega (arith, h.1)) (part-short i p hi (omega arith)),
      chain-size n i hn hi (c ∷ bs) (part_name i p) (m + 2 ^ b) (suc p) h.2 (omega arith) (part-short i p hi (omega arith)),
    )

row-size : (n i : ℕ) → n ≤ 100 → i < 100 → (us : List ℕ) → Ascends n 0 us → length us ≤ 100
    → size (cover_lines (row_covers i us)) ≤ length us * 36
unfolding row_covers cover_lines joined spaced Ascends
row-size n i hn hi [] h l = omega arith
row-size n i hn hi (a ∷ []) h l =
    omega (
      arith,
      length-append (names_line (copy_cover a i)) (cube_line (49 ∷ []) ++ []),
      line-length names_word (x_name a ∷ z_name i ∷ []),
      length-append (x_name a) (spaced (z_name i ∷ [])),
      length-append (z_name i) [],
      decimal-short a (omega (arith, h.1)),
      decimal-short i hi,
    )
row-size n i hn hi (a ∷ b ∷ bs) h l =
    omega (
      arith,
      chain-size n i hn hi (b ∷ bs) (x_name a) (0 + 2 ^ a) 1 h.2 (omega arith) (omega (arith, decimal-short a (omega (arith, h.1)))),
    )

inputs-length : (n v : ℕ) → length (inputs_of n v) ≤ n
unfolding inputs_of
inputs-length zero v = omega arith
inputs-length (suc n) v = go (eqb (bit v n) 0) (inputs-length n v)
  where
    go : (b : Bool) → length (inputs_of n v) ≤ n → length (inputs_of n v ++ cond b [] (n ∷ [])) ≤ suc n
    go true h = omega (arith, length-append (inputs_of n v) [])
    go false h = omega (arith, length-append (inputs_of n v) (n ∷ []))

front-size : (n : ℕ) (s : ℕ → ℕ) → n ≤ 100 → (i : ℕ) → i ≤ n → size (cover_lines (front_covers n s i)) ≤ i * (n * 36)
unfolding front_covers cover_lines joined
front-size n s hn zero h = omega arith
front-size n s hn (suc i) h =
    let us : List ℕ = inputs_of n (s i) in
    omega (
      arith,
      ap size (lines-append (front_covers n s i) (row_covers i us)),
      size-append (cover_lines (front_covers n s i)) (cover_lines (row_covers i us)),
      front-size n s hn i (omega arith),
      row-size n i hn (omega arith) us (inputs-row n (s i) n (omega arith)).0 (omega (arith, inputs-length n (s i))),
      inputs-length n (s i),
    )

-- ---- the outputs

cubes-size : (n : ℕ) (ps : List Pattern) → size (map cube_line (map (cube_of n) ps)) ≡ length ps * (n + 3)
unfolding joined
cubes-size n [] = omega arith
cubes-size n (p ∷ ps) =
    omega (
      arith,
      length-append (cube_line (cube_of n p)) (joined (map cube_line (map (cube_of n) ps))),
      length-append (cube_of n p) (32 ∷ 49 ∷ 10 ∷ []),
      length-tab n (λ i. symbol_of (bit p.mask i) (bit p.values i)),
      cubes-size n ps,
    )

back-size : (n c : ℕ) → n ≤ 100 → (qs : List (List Pattern)) (j : ℕ) → j + length qs ≤ 100
    → ((l : ℕ) → l < length qs → length (get_or qs l []) ≤ c) → size (cover_lines (back_covers n j qs)) ≤ length qs * (11 + n * 4 + c * (n + 3))
unfolding back_covers cover_lines joined
back-size n c hn [] j l h = omega arith
back-size n c hn (ps ∷ qs) j l h =
    omega (
      arith,
      length-append (names_line (output_cover n j ps)) (joined (map cube_line (map (cube_of n) ps) ++ cover_lines (back_covers n (suc j) qs))),
      line-length names_word (tab n z_name ++ (y_name j ∷ [])),
      spaced-more (tab n z_name) (y_name j),
      names-short 122 n hn,
      decimal-short j (omega arith),
      size-append (map cube_line (map (cube_of n) ps)) (cover_lines (back_covers n (suc j) qs)),
      cubes-size n ps,
      mul-le-mul_right (n + 3) (h 0 (omega arith)),
      back-size n c hn qs (suc j) (omega arith) (λ i b. h (suc i) (omega arith)),
    )

patterns-length : (j : ℕ) (rs : List Row) → length (patterns_of j rs) ≤ length rs
unfolding patterns_of
patterns-length j [] = omega arith
patterns-length j (r ∷ rs) = go (eqb (bit r.word j) 0) (patterns-length j rs)
  where
    go : (b : Bool) → length (patterns_of j rs) ≤ length rs
        → length (cond b (patterns_of j rs) (pattern r.mask r.values ∷ patterns_of j rs)) ≤ suc (length rs)
    go true h = omega arith
    go false h = omega arith

-- ---- the whole model

lines-size : (n k : ℕ) (cs : List Cover) → n ≤ 100 → k ≤ 100
    → size (model_lines n k cs) ≤ 13 + (8 + n * 4) + (9 + k * 4) + size (cover_lines cs) + 5
unfolding model_lines joined spaced
lines-size n k cs hn hk =
    omega (
      arith,
      length-append (inputs_line n) (outputs_line k ++ joined (cover_lines cs ++ (last_line ∷ []))),
      length-append (outputs_line k) (joined (cover_lines cs ++ (last_line ∷ []))),
      line-length inputs_word (tab n x_name),
      line-length outputs_word (tab k y_name),
      names-short 120 n hn,
      names-short 121 k hk,
      size-append (cover_lines cs) (last_line ∷ []),
    )

-- the model of any matrix and of at most 512 smaller rows
pub model-fits : (n k : ℕ) (sigma : List ℕ) (rs : List Row) → n ≤ list_inputs → k ≤ outputs → length rs ≤ smaller_rows
    → length (block_model n k sigma rs) ≤ model_room
unfolding block_model model_of model_covers
model-fits n k sigma rs hn hk hr =
    let f : ℕ → List Pattern = λ j. patterns_of j rs in
    let qs : List (List Pattern) = tab k f in
    let fc : List Cover = front_covers n (at sigma) n in
    let bc : List Cover = back_covers n 0 qs in
    let count : length qs ≡ k = length-tab k f in
    let c : ℕ = length rs in
    let few : (l : ℕ) → l < length qs → length (get_or qs l []) ≤ c =
    λ l h. rw (tab-at k f [] l (omega arith)) (patterns-length l rs) in
    let row : n * 36 ≤ list_inputs * 36 = omega arith in
    let rows : n * (n * 36) ≤ list_inputs * (list_inputs * 36) = mul-le-mul hn row in
    let line : n + 3 ≤ list_inputs + 3 = omega arith in
    let lines : c * (n + 3) ≤ smaller_rows * (list_inputs + 3) = mul-le-mul hr line in
    let each : 11 + n * 4 + c * (n + 3) ≤ 11 + list_inputs * 4 + smaller_rows * (list_inputs + 3) = omega arith in
    let some : length qs ≤ outputs = omega arith in
    let outs : length qs * (11 + n * 4 + c * (n + 3)) ≤ outputs * (11 + list_inputs * 4 + smaller_rows * (list_inputs + 3)) =
    mul-le-mul some each in
    omega (
      arith,
      lines-size n (length qs) (fc ++ bc) (omega arith) (omega arith),
      ap size (lines-append fc bc),
      size-append (cover_lines fc) (cover_lines bc),
      front-size n (at sigma) (omega arith) n (omega arith),
      back-size n c (omega arith) qs 0 (omega arith) few,
    )

-- ---- the operation and the program

-- each check of the row method has a number of its own
all-numbered : (n k y w : ℕ) (rs : List Row) (short : Bool) → Numbered (method_checks n k y w rs short)
unfolding method_checks
all-numbered n k y w rs short = (refl, (refl, (refl, (refl, (refl, (refl, (refl, (refl, (refl, (refl, tt))))))))))

-- no check that holds has the number m
abbrev Without : ℕ → List Check → Type 0
Without m [] = eqb 0 m ≡ false
Without m (c ∷ cs) = (eqb c.number m && c.holds ≡ false) × Without m cs

verdict-without : (m : ℕ) (cs : List Check) → Without m cs → eqb (verdict cs).number m ≡ false
unfolding verdict
verdict-without m [] h = h
verdict-without m (c ∷ cs) h = go c.holds h.0 (verdict-without m cs h.1)
  where
    go : (b : Bool) → eqb c.number m && b ≡ false → eqb (verdict cs).number m ≡ false
        → eqb (cond b (answer c.number c.a c.b) (verdict cs)).number m ≡ false
    go true d ih = sym (and-true (eqb c.number m)) ∙ d
    go false d ih = ih

-- the model of a list that the row method takes
module _ (n k y w : ℕ) (rs : List Row) where
  taken-fits : (verdict (method_checks n k y w rs false)).number ≡ 0 → length (model_text (missing y) n k w rs) ≤ model_room
  unfolding model_text
  taken-fits h =
      let p = method-answered n k y w rs false h in
      model-fits n k (sigma_of (of_rows (missing y) rs) n w) (smaller_list (missing y) n w rs)
      p.passed.list.range.size.1 p.passed.list.range.columns.1 p.few

  -- so does each that is written
  pub written-fits : (room : ℕ) → (model_verdict n k y w rs room).number ≡ 0 → length (model_text (missing y) n k w rs) ≤ model_room
  unfolding model_verdict
  written-fits room h = taken-fits (then-zero (verdict (method_checks n k y w rs false)) _ h)

  -- with the room of any model the verdict is that of the row method's own checks
  pub room-enough : (room : ℕ) → model_room ≤ room → model_verdict n k y w rs room ≡ verdict (method_checks n k y w rs false)
  unfolding model_verdict
  room-enough room h = go (answered (verdict (method_checks n k y w rs false))) refl
    where
      cs : List Check
      cs = method_checks n k y w rs false

      v : Answer
      v = verdict cs

      u : Answer
      u = verdict (check (ltb room (length (model_text (missing y) n k w rs))) 5 0 0 ∷ [])

      go : (b : Bool) → answered v ≡ b → cond b u v ≡ v
      go false e = refl
      go true e =
          verdict-miss _ _ (le-ltb room (length (model_text (missing y) n k w rs)) (omega (arith, taken-fits (eqb-true v.number 0 e))))
          ∙ sym (verdict-then cs [] e (all-numbered n k y w rs false))
          ∙ ap verdict (append-nil cs)

  -- so 5 never comes
  pub never-short : (room : ℕ) → model_room ≤ room → (model_verdict n k y w rs room).number ≡ 5 → ⊥
  unfolding method_checks
  never-short room h e =
      let five = eq-eqb _ 5 (sym (ap (λ (v : Answer). v.number) (room-enough room h)) ∙ e) in
      let others : Without 5 (method_checks n k y w rs false) = (refl, (refl, (refl, (refl, (refl, (refl, (refl, (refl, (refl, (refl, refl)))))))))) in
      false≢true (sym (verdict-without 5 (method_checks n k y w rs false) others) ∙ five)

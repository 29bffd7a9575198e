-- The lines that are written for n, k, a matrix and patterns within the ranges lead to that whole model (`written-whole`): each line is of
-- one of the forms due and of no other, since names of different numbers, and parts and wholes, are different. Assumes nothing.
use Rattle.std.proofs.Math.Path.{◌≡◌, ap, ap₂}
use Rattle.std.specs.Prelude.{refl, Bool, true, false, cond, ◌&&◌, ltb}
use Rattle.std.proofs.Common.{sym, ◌∙◌, add-one, arith, length-append, pow_mono}
use mathlib.Core.List.{List, [], ◌∷◌, ◌++◌, map, append_assoc, append-nil}
use Prim.Native.Nat.{ℕ, zero, suc, ◌+◌, ◌^◌, ◌%◌, ◌≤◌, ◌<◌}
use Rattle.std.proofs.Math.Decide.{dec_lt, ℕ_discrete}
use Rattle.std.proofs.Math.Nat.{mod-eq_of_lt, zero-add}
use borrow.Author.Tests.{eq-eqb, ne_eqb, lt-ltb}
use Rattle.std.proofs.Math.ListN.{length}
use Rattle.slices.specs.Places.{at, tab}
use Rattle.slices.specs.Filled.{length-tab, tab-list}
use Rattle.block.specs.Limits.{list_inputs, outputs}
use Rattle.block.specs.Text.{decimal, equal, every}
use Rattle.read_laws.specs.Tests.{equal-same}
use Rattle.block.specs.declared.Pattern.{Pattern}
use Rattle.block.specs.Covers.{names_word, inputs_word, outputs_word}
use Rattle.block.specs.Model.{x_name, y_name, z_name, part_name, copy_cover, xor_cover, chain, row_covers, inputs_of, front_covers, cube_of, output_cover, back_covers, model_covers, word_line, names_line, cube_line, cover_lines, title_line, inputs_line, outputs_line, last_line, model_lines}
use Rattle.model_laws.specs.Names.{decimal-same, decimal-part}
use Rattle.model_laws.specs.WordLines.{AllWords, IsWord, x-word, y-word, z_word, part-word, words-tab, three-words, words-apart}
use Rattle.model_laws.specs.Inputs.{summed, Ascends, inputs-row}
use Rattle.block.specs.ModelRead.{State, Due, InputsDue, OutputsDue, RowDue, LinkDue, OutputDue, PatternDue, Outcome, More, Whole, Bad, on, or_else, attempt, next_row, xor_due, link_at, link, pattern_form, step, after, start}
use Rattle.model_laws.specs.Lines.{lines-append}
use Rattle.model_laws.specs.Patterns.{Sounds, AllSound, pattern-form, pattern-back}
use Rattle.model_laws.specs.Accepted.{ModelSaid}

-- ---- the only way on is the one taken

attempt-none : (m : ℕ) (f : ℕ → Outcome) → ((j : ℕ) → j < m → f j ≡ Bad) → attempt m f ≡ Bad
unfolding attempt
attempt-none zero f h = refl
attempt-none (suc m) f h = ap₂ or_else (attempt-none m f (λ j l. h j (omega arith))) (h m (omega arith))

attempt-is : (m : ℕ) (f : ℕ → Outcome) (i : ℕ) (s : State) → i < m → f i ≡ More s → ((j : ℕ) → j < m → (j ≡ i → ⊥) → f j ≡ Bad)
    → attempt m f ≡ More s
unfolding attempt
attempt-is zero f i s h e o = absurd (omega arith)
attempt-is (suc m) f i s h e o = go (ℕ_discrete i m) (λ l. attempt-is m f i s l e (λ j k n. o j (omega arith) n))
  where
    go : Dec (i ≡ m) → (i < m → attempt m f ≡ More s) → or_else (attempt m f) (f m) ≡ More s
    go (yes q) ih =
        ap (λ (a : Outcome). or_else a (f m)) (attempt-none m f (λ j k. o j (omega arith) (λ n. omega arith)))
        ∙ ap f (sym q) ∙ e
    go (no q) ih = ap (λ (a : Outcome). or_else a (f m)) (ih (omega arith))

off : (b : Bool) (o : Outcome) → b ≡ false → on b o ≡ Bad
off b o e = rw e

off-link : (a e c d : Bool) (o q : Outcome) → e ≡ false → d ≡ false → on a (or_else (on e o) (on (c && d) q)) ≡ Bad
off-link true e true d o q x y = rw (x, y)
off-link true e false d o q x y = rw x
off-link false e c d o q x y = refl

-- ---- the lines of names, told apart

names_apart : (ms ls : List (List ℕ)) → AllWords ms → AllWords ls → (ms ≡ ls → ⊥)
    → equal (word_line names_word ms) (word_line names_word ls) ≡ false
names_apart ms ls a b h = words-apart names_word ms ls a b h

x-apart : (a b : ℕ) → a < 1000 → b < 1000 → (a ≡ b → ⊥) → x_name a ≡ x_name b → ⊥
x-apart a b h l n e = n (decimal-same a b h l (cc))

-- XOR lines with other inputs, or another output
xor-other : (from to to' : List ℕ) (b j : ℕ) → IsWord from → IsWord to → IsWord to' → b < 1000 → j < 1000 → (j ≡ b → ⊥)
    → equal (names_line (xor_cover from b to)) (names_line (xor_cover from j to')) ≡ false
xor-other from to to' b j cf ct cu hb hj n =
    names_apart (from ∷ x_name b ∷ to ∷ []) (from ∷ x_name j ∷ to' ∷ []) (three-words from b to cf ct) (three-words from j to' cf cu)
    (λ e. x-apart b j hb hj (λ q. n (sym q)) (cc))

xor-to : (from to to' : List ℕ) (b : ℕ) → IsWord from → IsWord to → IsWord to' → (to ≡ to' → ⊥)
    → equal (names_line (xor_cover from b to)) (names_line (xor_cover from b to')) ≡ false
xor-to from to to' b cf ct cu n =
    names_apart (from ∷ x_name b ∷ to ∷ []) (from ∷ x_name b ∷ to' ∷ []) (three-words from b to cf ct) (three-words from b to' cf cu)
    (λ e. n (cc))

xor-from : (from from' to to' : List ℕ) (b j : ℕ) → IsWord from → IsWord from' → IsWord to → IsWord to' → (from ≡ from' → ⊥)
    → equal (names_line (xor_cover from b to)) (names_line (xor_cover from' j to')) ≡ false
xor-from from from' to to' b j cf cg ct cu n =
    names_apart (from ∷ x_name b ∷ to ∷ []) (from' ∷ x_name j ∷ to' ∷ []) (three-words from b to cf ct) (three-words from' j to' cg cu)
    (λ e. n (cc))

-- ---- a chain goes on

module _ (n k : ℕ) (rs : List ℕ) (hn : n ≤ 1000) where
  abbrev ix : ℕ
  ix = length rs

  -- the last cover of a chain
  link-end : (from : List ℕ) (m p b : ℕ) → IsWord from → m < 2 ^ b → b < n
      → link n k rs from m p (names_line (xor_cover from b (z_name ix))) ≡ More (xor_due (next_row n k (rs ++ ((m + 2 ^ b) ∷ []))))
  unfolding link
  link-end from m p b cf l h =
      attempt-is n (link_at n k rs from m p (names_line (xor_cover from b (z_name ix)))) b _ h
      (rw (lt-ltb m (2 ^ b) l, equal-same (names_line (xor_cover from b (z_name ix)))))
      (λ j q o.
      off-link (ltb m (2 ^ j)) _ (ltb (suc j) n) _ _ _
      (xor-other from (z_name ix) (z_name ix) b j cf (z_word ix) (z_word ix) (omega arith) (omega arith) o)
      (xor-other from (z_name ix) (part_name ix p) b j cf (z_word ix) (part-word ix p) (omega arith) (omega arith) o))

  -- a part of a chain
  link-part : (from : List ℕ) (m p b : ℕ) → IsWord from → m < 2 ^ b → suc b < n
      → link n k rs from m p (names_line (xor_cover from b (part_name ix p))) ≡ More (xor_due (LinkDue n k rs (m + 2 ^ b) p))
  unfolding link
  link-part from m p b cf l h =
      attempt-is n (link_at n k rs from m p (names_line (xor_cover from b (part_name ix p)))) b _ (omega arith)
      (rw (
        lt-ltb m (2 ^ b) l,
        xor-to from (part_name ix p) (z_name ix) b cf (part-word ix p) (z_word ix) (λ e. decimal-part ix ix (decimal p) (cc)),
        lt-ltb (suc b) n h,
        equal-same (names_line (xor_cover from b (part_name ix p))),
      ))
      (λ j q o.
      off-link (ltb m (2 ^ j)) _ (ltb (suc j) n) _ _ _
      (xor-other from (part_name ix p) (z_name ix) b j cf (part-word ix p) (z_word ix) (omega arith) (omega arith) o)
      (xor-other from (part_name ix p) (part_name ix p) b j cf (part-word ix p) (part-word ix p) (omega arith) (omega arith) o))

  -- a chain that began elsewhere
  link-other : (from from' to : List ℕ) (m p b : ℕ) → IsWord from → IsWord from' → IsWord to → (from ≡ from' → ⊥)
      → link n k rs from' m p (names_line (xor_cover from b to)) ≡ Bad
  unfolding link
  link-other from from' to m p b cf cg ct o =
      attempt-none n (link_at n k rs from' m p (names_line (xor_cover from b to)))
      (λ j q.
      off-link (ltb m (2 ^ j)) _ (ltb (suc j) n) _ _ _
      (xor-from from from' to (z_name ix) b j cf cg ct (z_word ix) o)
      (xor-from from from' to (part_name ix p) b j cf cg ct (part-word ix p) o))

  two-words : (a : ℕ) → AllWords (x_name a ∷ z_name ix ∷ [])
  unfolding AllWords
  two-words a = (x-word a, (z_word ix, tt))

  -- the first cover of a row
  front-copy : (a : ℕ) → a < n
      → step (RowDue n k rs) (names_line (copy_cover a ix)) ≡ More (Due (cube_line (49 ∷ [])) (next_row n k (rs ++ (2 ^ a ∷ []))))
  unfolding step
  front-copy a h =
      ap (λ (o : Outcome). or_else o (attempt n (λ c. link n k rs (x_name c) (2 ^ c) 1 (names_line (copy_cover a ix)))))
      (attempt-is n
      (λ c. on (equal (names_line (copy_cover a ix)) (names_line (copy_cover c ix)))
      (More (Due (cube_line (49 ∷ [])) (next_row n k (rs ++ (2 ^ c ∷ [])))))) a _ h
      (rw (equal-same (names_line (copy_cover a ix))))
      (λ j q o. off _ _
      (names_apart (x_name a ∷ z_name ix ∷ []) (x_name j ∷ z_name ix ∷ []) (two-words a) (two-words j)
      (λ e. x-apart a j (omega arith) (omega arith) (λ r. o (sym r)) (cc)))))

  front-chain : (a b : ℕ) (to : List ℕ) (s : State) → a < n → IsWord to
      → link n k rs (x_name a) (2 ^ a) 1 (names_line (xor_cover (x_name a) b to)) ≡ More s
      → step (RowDue n k rs) (names_line (xor_cover (x_name a) b to)) ≡ More s
  unfolding step
  front-chain a b to s h ct e =
      ap₂ or_else
      (attempt-none n _
      (λ j q. off _ _
      (names_apart (x_name a ∷ x_name b ∷ to ∷ []) (x_name j ∷ z_name ix ∷ []) (three-words (x_name a) b to (x-word a) ct) (two-words j)
      (λ r. let z : ◌≡◌ {A = ℕ} 3 2 = ap length r in omega arith))))
      (attempt-is n (λ c. link n k rs (x_name c) (2 ^ c) 1 (names_line (xor_cover (x_name a) b to))) a s h e
      (λ j q o. link-other (x_name a) (x_name j) to (2 ^ j) 1 b (x-word a) (x-word j) ct
      (x-apart a j (omega arith) (omega arith) (λ r. o (sym r)))))

-- ---- the lines of a row

pub due-same : (l : List ℕ) (s : State) (ls : List (List ℕ)) → after (More (Due l s)) (l ∷ ls) ≡ after (More s) ls
unfolding after step
due-same l s ls = rw (equal-same l)

xor-due : (s : State) (ls : List (List ℕ))
    → after (More (xor_due s)) (cube_line (48 ∷ 49 ∷ []) ∷ cube_line (49 ∷ 48 ∷ []) ∷ ls) ≡ after (More s) ls
xor-due s ls =
    due-same (cube_line (48 ∷ 49 ∷ [])) (Due (cube_line (49 ∷ 48 ∷ [])) s) (cube_line (49 ∷ 48 ∷ []) ∷ ls)
    ∙ due-same (cube_line (49 ∷ 48 ∷ [])) s ls

pow_below : (b c : ℕ) → 2 ^ b < 2 ^ c → b < c
pow_below b c h = go (dec_lt b c)
  where
    go : Dec (b < c) → b < c
    go (yes l) = l
    go (no l) = absurd (omega (arith, pow_mono {i = c} {j = b} (omega arith)))

module _ (n k : ℕ) (rs : List ℕ) (hn : n ≤ 1000) where
  pub chain-read : (b : ℕ) (bs : List ℕ) (m p : ℕ) (rest : List (List ℕ)) → Ascends n m (b ∷ bs)
      → after (More (LinkDue n k rs m p)) (cover_lines (chain (length rs) (part_name (length rs) p) (suc p) (b ∷ bs)) ++ rest)
      ≡ after (More (next_row n k (rs ++ (summed m (b ∷ bs) ∷ [])))) rest
  unfolding after step chain cover_lines summed Ascends
  chain-read b [] m p rest h =
      ap (λ (o : Outcome). after o (cube_line (48 ∷ 49 ∷ []) ∷ cube_line (49 ∷ 48 ∷ []) ∷ rest))
      (link-end n k rs hn (part_name (length rs) p) m (suc p) b (part-word (length rs) p) h.0 h.1)
      ∙ xor-due _ rest
  chain-read b (c ∷ bs) m p rest h =
      ap (λ (o : Outcome). after o
      (cube_line (48 ∷ 49 ∷ []) ∷ cube_line (49 ∷ 48 ∷ [])
      ∷ (cover_lines (chain (length rs) (part_name (length rs) (suc p)) (suc (suc p)) (c ∷ bs)) ++ rest)))
      (link-part n k rs hn (part_name (length rs) p) m (suc p) b (part-word (length rs) p) h.0
      (omega (arith, pow_below b c (omega (arith, h.2.0)), h.2.1)))
      ∙ xor-due (LinkDue n k rs (m + 2 ^ b) (suc p))
      (cover_lines (chain (length rs) (part_name (length rs) (suc p)) (suc (suc p)) (c ∷ bs)) ++ rest)
      ∙ chain-read c bs (m + 2 ^ b) (suc p) rest h.2

  -- a row with some input
  row_read : (a : ℕ) (us : List ℕ) (rest : List (List ℕ)) → Ascends n 0 (a ∷ us)
      → after (More (RowDue n k rs)) (cover_lines (row_covers (length rs) (a ∷ us)) ++ rest)
      ≡ after (More (next_row n k (rs ++ (summed 0 (a ∷ us) ∷ [])))) rest
  unfolding after chain row_covers cover_lines summed Ascends
  row_read a [] rest h =
      ap (λ (o : Outcome). after o (cube_line (49 ∷ []) ∷ rest)) (front-copy n k rs hn a h.1)
      ∙ due-same (cube_line (49 ∷ [])) (next_row n k (rs ++ (2 ^ a ∷ []))) rest
      ∙ ap (λ (v : ℕ). after (More (next_row n k (rs ++ (v ∷ [])))) rest) (sym (zero-add (2 ^ a)))
  row_read a (b ∷ []) rest h =
      let l : 2 ^ a < 2 ^ b = omega (arith, h.2.0) in
      ap (λ (o : Outcome). after o (cube_line (48 ∷ 49 ∷ []) ∷ cube_line (49 ∷ 48 ∷ []) ∷ rest))
      (front-chain n k rs hn a b (z_name (length rs)) (xor_due (next_row n k (rs ++ ((2 ^ a + 2 ^ b) ∷ [])))) h.1 (z_word (length rs))
      (link-end n k rs hn (x_name a) (2 ^ a) 1 b (x-word a) l h.2.1))
      ∙ xor-due (next_row n k (rs ++ ((2 ^ a + 2 ^ b) ∷ []))) rest
      ∙ ap (λ (v : ℕ). after (More (next_row n k (rs ++ ((v + 2 ^ b) ∷ [])))) rest) (sym (zero-add (2 ^ a)))
  row_read a (b ∷ c ∷ us) rest h =
      let l : 2 ^ a < 2 ^ b = omega (arith, h.2.0) in
      let g : suc b < n = omega (arith, pow_below b c (omega (arith, h.2.2.0)), h.2.2.1) in
      let z : 0 + 2 ^ a ≡ 2 ^ a = zero-add (2 ^ a) in
      ap (λ (o : Outcome). after o
      (cube_line (48 ∷ 49 ∷ []) ∷ cube_line (49 ∷ 48 ∷ []) ∷ (cover_lines (chain (length rs) (part_name (length rs) 1) 2 (c ∷ us)) ++ rest)))
      (front-chain n k rs hn a b (part_name (length rs) 1) (xor_due (LinkDue n k rs (2 ^ a + 2 ^ b) 1)) h.1 (part-word (length rs) 1)
      (link-part n k rs hn (x_name a) (2 ^ a) 1 b (x-word a) l g))
      ∙ xor-due (LinkDue n k rs (2 ^ a + 2 ^ b) 1) (cover_lines (chain (length rs) (part_name (length rs) 1) 2 (c ∷ us)) ++ rest)
      ∙ chain-read c us (2 ^ a + 2 ^ b) 1 rest (rw z at h.2.2)
      ∙ ap (λ (v : ℕ). after (More (next_row n k (rs ++ (summed (v + 2 ^ b) (c ∷ us) ∷ [])))) rest) (sym z)

  -- a row that is not 0
  pub row-whole : (v : ℕ) (rest : List (List ℕ)) → 0 < v → v < 2 ^ n
      → after (More (RowDue n k rs)) (cover_lines (row_covers (length rs) (inputs_of n v)) ++ rest)
      ≡ after (More (next_row n k (rs ++ (v ∷ [])))) rest
  unfolding summed Ascends
  row-whole v rest pos small = go (inputs_of n v) (inputs-row n v n (omega arith))
    where
      go : (us : List ℕ) → Ascends n 0 us × (summed 0 us ≡ v % 2 ^ n)
          → after (More (RowDue n k rs)) (cover_lines (row_covers (length rs) us) ++ rest) ≡ after (More (next_row n k (rs ++ (v ∷ [])))) rest
      go [] h = absurd (omega (arith, h.1, mod-eq_of_lt small))
      go (a ∷ us) h =
          row_read a us rest h.0 ∙ ap (λ (w : ℕ). after (More (next_row n k (rs ++ (w ∷ [])))) rest) (h.1 ∙ mod-eq_of_lt small)

-- ---- the rows

rows-read : (n k : ℕ) (s : ℕ → ℕ) (i : ℕ) (rest : List (List ℕ)) → n ≤ 1000 → 1 ≤ n → i ≤ n → ((j : ℕ) → j < n → (0 < s j) × (s j < 2 ^ n))
    → after (More (RowDue n k [])) (cover_lines (front_covers n s i) ++ rest) ≡ after (More (next_row n k (tab i s))) rest
unfolding front_covers cover_lines tab
rows-read n k s zero rest hn pos h good =
    ap (λ (b : Bool). after (More (cond b (OutputDue n k []) (RowDue n k []))) rest) (sym (ne_eqb 0 n (λ e. omega arith)))
rows-read n k s (suc i) rest hn pos h good =
    ap (λ (t : List (List ℕ)). after (More (RowDue n k [])) t)
    (ap (λ (u : List (List ℕ)). u ++ rest) (lines-append (front_covers n s i) (row_covers i (inputs_of n (s i))))
    ∙ append_assoc (cover_lines (front_covers n s i)) (cover_lines (row_covers i (inputs_of n (s i)))) rest)
    ∙ rows-read n k s i (cover_lines (row_covers i (inputs_of n (s i))) ++ rest) hn pos (omega arith) good
    ∙ ap (λ (b : Bool). after (More (cond b (OutputDue n k (tab i s)) (RowDue n k (tab i s))))
    (cover_lines (row_covers i (inputs_of n (s i))) ++ rest))
    (ne_eqb (length (tab i s)) n (λ e. omega (arith, e, length-tab i s)))
    ∙ ap (λ (j : ℕ). after (More (RowDue n k (tab i s))) (cover_lines (row_covers j (inputs_of n (s i))) ++ rest)) (sym (length-tab i s))
    ∙ row-whole n k (tab i s) hn (s i) rest (good i (omega arith)).0 (good i (omega arith)).1

-- ---- the outputs

-- a line that begins with a dot is no pattern
dot-form : (n : ℕ) (l : List ℕ) → 1 ≤ n → pattern_form n (46 ∷ l) ≡ false
unfolding pattern_form every
dot-form zero l h = absurd (omega arith)
dot-form (suc n) l h = refl

patterns-read : (n k : ℕ) (sigma : List ℕ) (qs : List (List Pattern)) (rs ps : List Pattern) (rest : List (List ℕ)) → Sounds n rs
    → after (More (PatternDue n k sigma qs ps)) (map cube_line (map (cube_of n) rs) ++ rest)
    ≡ after (More (PatternDue n k sigma qs (ps ++ rs))) rest
unfolding after step Sounds
patterns-read n k sigma qs [] ps rest h = ap (λ (t : List Pattern). after (More (PatternDue n k sigma qs t)) rest) (sym (append-nil ps))
patterns-read n k sigma qs (r ∷ rs) ps rest h =
    ap (λ (o : Outcome). after o (map cube_line (map (cube_of n) rs) ++ rest))
    (rw (pattern-form n r h.0, pattern-back n r h.0))
    ∙ patterns-read n k sigma qs rs (ps ++ (r ∷ [])) rest h.1
    ∙ ap (λ (t : List Pattern). after (More (PatternDue n k sigma qs t)) rest) (append_assoc ps (r ∷ []) rs)

-- the next output's line
back-next : (n k : ℕ) (sigma : List ℕ) (qs : List (List Pattern)) (ps : List Pattern) → 1 ≤ n → suc (length qs) < k
    → step (PatternDue n k sigma qs ps) (names_line (output_cover n (suc (length qs)) [])) ≡ More (PatternDue n k sigma (qs ++ (ps ∷ [])) [])
unfolding step
back-next n k sigma qs ps pos h =
    rw (
      dot-form n _ pos,
      ne_eqb (suc (length qs)) k (λ e. omega arith),
      equal-same (names_line (output_cover n (suc (length qs)) [])),
    )

back_end : (n k : ℕ) (sigma : List ℕ) (qs : List (List Pattern)) (ps : List Pattern) → 1 ≤ n → suc (length qs) ≡ k
    → step (PatternDue n k sigma qs ps) last_line ≡ Whole n k sigma (qs ++ (ps ∷ []))
unfolding step
back_end n k sigma qs ps pos e = rw (dot-form n _ pos, eq-eqb (suc (length qs)) k e, equal-same last_line)

pub outputs-read : (n k : ℕ) (sigma : List ℕ) → 1 ≤ n → (more qs : List (List Pattern)) (ps : List Pattern)
    → length qs + suc (length more) ≡ k → AllSound n more
    → after (More (PatternDue n k sigma qs ps)) (cover_lines (back_covers n (suc (length qs)) more) ++ (last_line ∷ []))
    ≡ Whole n k sigma (qs ++ (ps ∷ more))
unfolding after back_covers cover_lines AllSound
outputs-read n k sigma pos [] qs ps e h = back_end n k sigma qs ps pos (omega arith)
outputs-read n k sigma pos (r ∷ more) qs ps e h =
    ap (λ (o : Outcome). after o ((cubes ++ cover_lines (back_covers n (suc (suc (length qs))) more)) ++ (last_line ∷ [])))
    (back-next n k sigma qs ps pos (omega arith))
    ∙ ap (after (More (PatternDue n k sigma (qs ++ (ps ∷ [])) [])))
    (append_assoc cubes (cover_lines (back_covers n (suc (suc (length qs))) more)) (last_line ∷ []))
    ∙ patterns-read n k sigma (qs ++ (ps ∷ [])) r [] (cover_lines (back_covers n (suc (suc (length qs))) more) ++ (last_line ∷ [])) h.0
    ∙ ap (λ (j : ℕ). after (More (PatternDue n k sigma (qs ++ (ps ∷ [])) r)) (cover_lines (back_covers n (suc j) more) ++ (last_line ∷ [])))
    (sym longer)
    ∙ outputs-read n k sigma pos more (qs ++ (ps ∷ [])) r (omega (arith, longer)) h.1
    ∙ ap (Whole n k sigma) (append_assoc qs (ps ∷ []) (r ∷ more))
  where
    cubes : List (List ℕ)
    cubes = map cube_line (map (cube_of n) r)

    longer : length (qs ++ (ps ∷ [])) ≡ suc (length qs)
    longer = length-append qs (ps ∷ []) ∙ add-one (length qs)

-- ---- the whole model

tab-apart : (w : List ℕ) (f : ℕ → List ℕ) → ((i : ℕ) → IsWord (f i)) → (n m : ℕ) → (m ≡ n → ⊥)
    → equal (word_line w (tab n f)) (word_line w (tab m f)) ≡ false
tab-apart w f c n m h =
    words-apart w (tab n f) (tab m f) (words-tab f c n) (words-tab f c m)
    (λ e. let q : length (tab n f) ≡ length (tab m f) = ap length e in h (omega (arith, length-tab n f, length-tab m f)))

off-and : (a b : Bool) (o : Outcome) → b ≡ false → on (a && b) o ≡ Bad
off-and true b o e = rw e
off-and false b o e = refl

pub inputs-step : (n : ℕ) → 1 ≤ n → n ≤ list_inputs → step InputsDue (inputs_line n) ≡ More (OutputsDue n)
unfolding step
inputs-step n l h =
    attempt-is (suc list_inputs) (λ m. on (ltb 0 m && equal (inputs_line n) (inputs_line m)) (More (OutputsDue m))) n (OutputsDue n)
    (omega arith)
    (rw (lt-ltb 0 n (omega arith), equal-same (inputs_line n)))
    (λ j q o. off-and (ltb 0 j) _ _ (tab-apart inputs_word x_name x-word n j o))

pub outputs-step : (n k : ℕ) → 1 ≤ k → k ≤ outputs → step (OutputsDue n) (outputs_line k) ≡ More (RowDue n k [])
unfolding step
outputs-step n k l h =
    attempt-is (suc outputs) (λ m. on (ltb 0 m && equal (outputs_line k) (outputs_line m)) (More (RowDue n m []))) k (RowDue n k [])
    (omega arith)
    (rw (lt-ltb 0 k (omega arith), equal-same (outputs_line k)))
    (λ j q o. off-and (ltb 0 j) _ _ (tab-apart outputs_word y_name y-word k j o))

pub head_read : (n k : ℕ) (sigma : List ℕ) (qs : List (List Pattern)) → 1 ≤ n → 1 ≤ k → length qs ≡ k → AllSound n qs
    → after (More (OutputDue n k sigma)) (cover_lines (back_covers n 0 qs) ++ (last_line ∷ [])) ≡ Whole n k sigma qs
unfolding after step back_covers cover_lines AllSound
head_read n k sigma [] pos hk e h = absurd (omega arith)
head_read n k sigma (ps ∷ more) pos hk e h =
    ap (λ (b : Bool). after (on b (More (PatternDue n k sigma [] []))) ((cubes ++ cover_lines (back_covers n 1 more)) ++ (last_line ∷ [])))
    (equal-same (names_line (output_cover n 0 [])))
    ∙ ap (after (More (PatternDue n k sigma [] []))) (append_assoc cubes (cover_lines (back_covers n 1 more)) (last_line ∷ []))
    ∙ patterns-read n k sigma [] ps [] (cover_lines (back_covers n 1 more) ++ (last_line ∷ [])) h.0
    ∙ outputs-read n k sigma pos more [] ps (omega arith) h.1
  where
    cubes : List (List ℕ)
    cubes = map cube_line (map (cube_of n) ps)

-- what is written for a model within the ranges leads to it
pub written-whole : (n k : ℕ) (sigma : List ℕ) (qs : List (List Pattern)) → ModelSaid n k sigma qs
    → after start (model_lines n k (model_covers n sigma qs)) ≡ Whole n k sigma qs
unfolding after model_lines model_covers
written-whole n k sigma qs s =
    due-same title_line InputsDue (inputs_line n ∷ outputs_line k ∷ cover_lines (model_covers n sigma qs) ++ (last_line ∷ []))
    ∙ ap (λ (o : Outcome). after o (outputs_line k ∷ cover_lines (model_covers n sigma qs) ++ (last_line ∷ [])))
    (inputs-step n s.sized.inputs.0 s.sized.inputs.1)
    ∙ ap (λ (o : Outcome). after o (cover_lines (model_covers n sigma qs) ++ (last_line ∷ [])))
    (outputs-step n k s.sized.outs.0 s.sized.outs.1)
    ∙ ap (after (More (RowDue n k [])))
    (ap (λ (t : List (List ℕ)). t ++ (last_line ∷ [])) (lines-append (front_covers n (at sigma) n) (back_covers n 0 qs))
    ∙ append_assoc (cover_lines (front_covers n (at sigma) n)) (cover_lines (back_covers n 0 qs)) (last_line ∷ []))
    ∙ rows-read n k (at sigma) n (cover_lines (back_covers n 0 qs) ++ (last_line ∷ [])) (omega (arith, s.sized.inputs.1))
    s.sized.inputs.0 (omega arith) (λ j h. s.rows j (omega (arith, s.full)))
    ∙ ap (λ (t : List ℕ). after (More (next_row n k t)) (cover_lines (back_covers n 0 qs) ++ (last_line ∷ []))) same
    ∙ ap (λ (b : Bool). after (More (cond b (OutputDue n k sigma) (RowDue n k sigma))) (cover_lines (back_covers n 0 qs) ++ (last_line ∷ [])))
    (eq-eqb (length sigma) n s.full)
    ∙ head_read n k sigma qs s.sized.inputs.0 s.sized.outs.0 s.outs s.patterns
  where
    same : tab n (at sigma) ≡ sigma
    same = ap (λ (i : ℕ). tab i (at sigma)) (sym s.full) ∙ tab-list 0 sigma

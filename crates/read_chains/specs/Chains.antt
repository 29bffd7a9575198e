-- The covers of a chain by place: the first input whose line stands there (`linked_at`), what the line then says (`link_of`), that this is
-- what the meaning says of the line (`linked`), and how a chain goes on cover by cover (`Going`). Assumes nothing.
use Rattle.std.specs.Prelude.{◌≡◌, Bool, not, cond, ◌&&◌, ◌||◌, List, [], ◌∷◌, ◌++◌, ℕ, suc, ◌+◌, ◌^◌, ◌≤◌, ◌<◌, eqb, length, drop, Ok, Err, Result}
use Rattle.std.proofs.Math.Path.{refl}
use Rattle.std.proofs.Common.{sym, ap, ◌∙◌, append_assoc, append-nil}
use Rattle.std.proofs.Math.Bool.{true, false}
use Rattle.std.proofs.Math.Decide.{dec_lt}
use Rattle.std.proofs.Math.Nat.{pow-le-pow_right}
use Rattle.std.proofs.Math.Numerals.{add-one}
use native.Mathlib.Omega.{arith, pow_step}
use borrow.Author.Tests.{lt-ltb, le-ltb, ltb-true}
use Rattle.std.proofs.Math.Dec.{ltb}
use Rattle.slices.specs.Places.{at, first}
use Rattle.slices.specs.Tests.{and_both}
use Rattle.slices.specs.Least.{first_passes}
use Rattle.block.specs.Limits.{list_inputs}
use Rattle.block.specs.Text.{equal, every}
use Rattle.block.specs.Covers.{names_word}
use Rattle.block.specs.Model.{x_name, z_name, part_name, copy_cover, xor_cover, spaced, names_line}
use Rattle.block.specs.ModelRead.{State, LinkDue, OutputDue, More, on, or_else, next_row, xor_due, link_at, link, step}
use Rattle.read_laws.specs.Front.{front, no_lf}
use Rattle.model_laws.specs.WordLines.{is_line, IsWord, AllWords, x-word, z_word, part-word, three-words, word-line}
use Rattle.read_names.specs.Met.{begins, met_at, lost, met-then, met-found, met-missed, met-test, begins-then}
use Rattle.read_names.specs.Fate.{front-begins, Came, Stopped, fate, fate-met, fate-stop, stop-after}
use Rattle.read_names.specs.Attempts.{attempt-first}
use Rattle.read_chains.specs.declared.Link.{Link}
use Rattle.read_chains.specs.declared.Link.TheVariants.{None, Last, Part}

-- ---- the bytes of a cover's line

-- the end of a line: " xb", the name that is defined, and LF
abbrev pub tail : ℕ → List ℕ → List ℕ
tail b to = 32 ∷ x_name b ++ (32 ∷ to ++ (10 ∷ []))

two-names : (m l : List ℕ) → spaced (m ∷ l ∷ []) ++ (10 ∷ []) ≡ 32 ∷ m ++ (32 ∷ l ++ (10 ∷ []))
unfolding spaced
two-names m l =
    ap (λ (s : List ℕ). 32 ∷ s)
    (append_assoc m (32 ∷ l ++ []) (10 ∷ []) ∙ ap (λ (s : List ℕ). m ++ (32 ∷ s ++ (10 ∷ []))) (append-nil l))

pub copy_line : (a i : ℕ) → names_word ++ tail a (z_name i) ≡ names_line (copy_cover a i)
copy_line a i =
    ap (λ (s : List ℕ). names_word ++ s) (sym (two-names (x_name a) (z_name i)))
    ∙ sym (append_assoc names_word (spaced (x_name a ∷ z_name i ∷ [])) (10 ∷ []))

three-names : (from m l : List ℕ) → spaced (from ∷ m ∷ l ∷ []) ++ (10 ∷ []) ≡ (32 ∷ from) ++ (spaced (m ∷ l ∷ []) ++ (10 ∷ []))
unfolding spaced
three-names from m l = ap (λ (s : List ℕ). 32 ∷ s) (append_assoc from (spaced (m ∷ l ∷ [])) (10 ∷ []))

-- a line up to its first name
abbrev pub opening : List ℕ → List ℕ
opening from = names_word ++ (32 ∷ from)

pub link-line : (from : List ℕ) (b : ℕ) (to : List ℕ) → opening from ++ tail b to ≡ names_line (xor_cover from b to)
link-line from b to =
    append_assoc names_word (32 ∷ from) (tail b to)
    ∙ ap (λ (s : List ℕ). names_word ++ ((32 ∷ from) ++ s)) (sym (two-names (x_name b) to))
    ∙ ap (λ (s : List ℕ). names_word ++ s) (sym (three-names from (x_name b) to))
    ∙ sym (append_assoc names_word (spaced (from ∷ x_name b ∷ to ∷ [])) (10 ∷ []))

word-clear : no_lf names_word ≡ true
unfolding every
word-clear = refl

pub copy-is-line : (a i : ℕ) → is_line (names_line (copy_cover a i)) ≡ true
unfolding AllWords
copy-is-line a i =
    word-line names_word (x_name a ∷ z_name i ∷ []) word-clear (x-word a, (z_word i, tt))

link-is-line : (from : List ℕ) (b : ℕ) (to : List ℕ) → IsWord from → IsWord to → is_line (names_line (xor_cover from b to)) ≡ true
link-is-line from b to e f =
    word-line names_word (from ∷ x_name b ∷ to ∷ []) word-clear (three-words from b to e f)

-- ---- what stands at a place, after a cover's first name

-- input b may stand there: it is above those so far, and the line ends the row, or goes on with part p, after which a higher input is left
unfoldable pub linked_at : List ℕ → ℕ → ℕ → ℕ → ℕ → ℕ → ℕ → Bool
linked_at t at n m i p b =
    ltb m (2 ^ b)
    && (begins (tail b (z_name i)) (drop at t) || (ltb (suc b) n && begins (tail b (part_name i p)) (drop at t)))

-- what is said with input b: none where b is n
unfoldable pub link_by : List ℕ → ℕ → ℕ → ℕ → ℕ → ℕ → ℕ → Link
link_by t at n m i p b =
    cond (ltb b n)
    (cond (begins (tail b (z_name i)) (drop at t))
    (Last (m + 2 ^ b) (met_at t at (tail b (z_name i))))
    (Part (m + 2 ^ b) (met_at t at (tail b (part_name i p)))))
    None

unfoldable pub link_of : List ℕ → ℕ → ℕ → ℕ → ℕ → ℕ → Link
link_of t at n m i p = link_by t at n m i p (first n (linked_at t at n m i p))

pub power_small : (b : ℕ) → b ≤ list_inputs → 2 ^ b ≤ 65536
power_small b h = pow-le-pow_right {n = 2} (omega arith) {i = b} {j = list_inputs} h

pub power_pos : (a : ℕ) → 1 ≤ 2 ^ a
power_pos a = pow-le-pow_right {n = 2} (omega arith) {i = 0} {j = a} (omega arith)

pub power-lt : (a n : ℕ) → a < n → 2 ^ a < 2 ^ n
power-lt a n h =
    let e : 2 ^ suc a ≤ 2 ^ n = pow-le-pow_right {n = 2} (omega arith) {i = suc a} {j = n} (omega arith) in
    omega (arith, pow_step 2 a, power_pos a)

grown : (n m b : ℕ) → b < n → m < 2 ^ b → (m + 2 ^ b < 2 ^ n) × (m + m < m + 2 ^ b)
grown n m b h l =
    let e : 2 ^ suc b ≤ 2 ^ n = pow-le-pow_right {n = 2} (omega arith) {i = suc b} {j = n} (omega arith) in
    (omega (arith, pow_step 2 b), omega arith)

-- the inputs of a row stay below 2^n, and those of a part have more than doubled
unfoldable pub Grown : ℕ → ℕ → Link → Type 0
Grown n m None = Unit
Grown n m (Last v to) = v < 2 ^ n
Grown n m (Part v to) = (v < 2 ^ n) × (m + m < v)

link-grown : (t : List ℕ) (at n m i p : ℕ) → Grown n m (link_of t at n m i p)
unfolding link_of link_by linked_at Grown
link-grown t at n m i p = go (dec_lt b n)
  where
    b : ℕ
    b = first n (linked_at t at n m i p)

    some : (q : Bool) (x y : ℕ) → b < n → m < 2 ^ b → Grown n m (cond q (Last (m + 2 ^ b) x) (Part (m + 2 ^ b) y))
    some true x y l d = (grown n m b l d).0
    some false x y l d = grown n m b l d

    go : Dec (b < n) → Grown n m (link_by t at n m i p b)
    go (yes l) =
        let v : linked_at t at n m i p b ≡ true = first_passes n (linked_at t at n m i p) l in
        rw (lt-ltb b n l) (some (begins (tail b (z_name i)) (drop at t)) _ _ l (ltb-true m (2 ^ b) (and_both (ltb m (2 ^ b)) _ v).0))
    go (no l) = rw (le-ltb b n (omega arith)) tt

pub link-told : (t : List ℕ) (at n m i p : ℕ) {r : Link} → r ≡ link_of t at n m i p → (r ≡ link_of t at n m i p) × Grown n m r
link-told t at n m i p e = (e, rw e (link-grown t at n m i p))

-- the test by the places that were answered
module _ (t : List ℕ) (h : length t < 2 ^ 63) (at n m i p b : ℕ) where
  pub linked-low : 2 ^ b ≤ m → false ≡ linked_at t at n m i p b
  unfolding linked_at
  linked-low l = rw (le-ltb m (2 ^ b) l)

  module _ (l : m < 2 ^ b) where
    pub linked-ends : (met_at t at (tail b (z_name i)) ≡ lost → ⊥) → true ≡ linked_at t at n m i p b
    unfolding linked_at
    linked-ends d = rw (lt-ltb m (2 ^ b) l, met-found t h at (32 ∷ x_name b ++ (32 ∷ z_name i ++ (10 ∷ []))) d)

    module _ (d : met_at t at (tail b (z_name i)) ≡ lost) where
      pub linked-over : n ≤ suc b → false ≡ linked_at t at n m i p b
      unfolding linked_at
      linked-over u =
          rw (lt-ltb m (2 ^ b) l, met-missed t h at (32 ∷ x_name b ++ (32 ∷ z_name i ++ (10 ∷ []))) (omega arith) d, le-ltb (suc b) n u)

      pub linked-goes : suc b < n → (r : ℕ) → r ≡ met_at t at (tail b (part_name i p)) → not (eqb r 18446744073709551615) ≡ linked_at t at n m i p b
      unfolding linked_at
      linked-goes u r g =
          rw (lt-ltb m (2 ^ b) l, met-missed t h at (32 ∷ x_name b ++ (32 ∷ z_name i ++ (10 ∷ []))) (omega arith) d, lt-ltb (suc b) n u)
          (met-test t h at 32 (x_name b ++ (32 ∷ part_name i p ++ (10 ∷ []))) r g)

-- what is said, likewise
module _ (t : List ℕ) (h : length t < 2 ^ 63) (at n m i p b : ℕ) (e : b ≡ first n (linked_at t at n m i p)) where
  pub link-none : n ≤ b → None ≡ link_of t at n m i p
  unfolding link_of link_by
  link-none l = rw (← e, le-ltb b n l)

  pub link-last : b < n → (met_at t at (tail b (z_name i)) ≡ lost → ⊥) → Last (m + 2 ^ b) (met_at t at (tail b (z_name i))) ≡ link_of t at n m i p
  unfolding link_of link_by
  link-last l d = rw (← e, lt-ltb b n l, met-found t h at (32 ∷ x_name b ++ (32 ∷ z_name i ++ (10 ∷ []))) d)

  pub link-part : b < n → met_at t at (tail b (z_name i)) ≡ lost → Part (m + 2 ^ b) (met_at t at (tail b (part_name i p))) ≡ link_of t at n m i p
  unfolding link_of link_by
  link-part l d = rw (← e, lt-ltb b n l, met-missed t h at (32 ∷ x_name b ++ (32 ∷ z_name i ++ (10 ∷ []))) (omega arith) d)

-- ---- a chain that goes on

-- At a place a chain's next cover is due, its inputs so far are m, and its next part is p: `begun` is the place after the line's first name.
-- The state is that of any k and any rows before this one.
pub record Chaining (text : List ℕ) (n i m p at begun : ℕ) (st : ℕ → List ℕ → State) : Type 0 where
  pub from : List ℕ
  pub word : IsWord from
  pub opened : begun ≡ met_at text at (opening from)
  pub links : (k : ℕ) (rs : List ℕ) → length rs ≡ i
      → step (st k rs) (front (drop at text)) ≡ link n k rs from m p (front (drop at text))

link-bools : (q e r f : Bool) (x y : State) → on q (or_else (on e (More x)) (on (r && f) (More y))) ≡ on (q && (e || (r && f))) (More (cond e x y))
link-bools true true r f x y = refl
link-bools true false r f x y = refl
link-bools false e r f x y = refl

-- what is due after a chain's next line, with input b
abbrev pub state_by : List ℕ → ℕ → ℕ → List ℕ → ℕ → ℕ → ℕ → ℕ → State
state_by text n k rs m p begun b =
    cond (begins (tail b (z_name (length rs))) (drop begun text)) (xor_due (next_row n k (rs ++ ((m + 2 ^ b) ∷ []))))
    (xor_due (LinkDue n k rs (m + 2 ^ b) p))

-- what comes of a chain's next line: nothing, or what is due at the place after it
unfoldable pub Linked : List ℕ → ℕ → ℕ → ℕ → (ℕ → List ℕ → State) → ℕ → Link → Type 0
Linked text n i p st at None = (k : ℕ) (rs : List ℕ) → length rs ≡ i → Stopped text (fate text (st k rs) at) at
Linked text n i p st at (Last v to) =
    (k : ℕ) (rs : List ℕ) → length rs ≡ i → fate text (st k rs) at ≡ fate text (xor_due (next_row n k (rs ++ (v ∷ [])))) to
Linked text n i p st at (Part v to) =
    (k : ℕ) (rs : List ℕ) → length rs ≡ i → fate text (st k rs) at ≡ fate text (xor_due (LinkDue n k rs v p)) to

module _ (text : List ℕ) (h : length text < 2 ^ 63) where
  -- a cover's line stands at a place exactly where its end stands after its beginning
  line-met : (at : ℕ) (from : List ℕ) (b : ℕ) (to : List ℕ)
      → begins (names_line (xor_cover from b to)) (drop at text) ≡ begins (tail b to) (drop (met_at text at (opening from)) text)
  line-met at from b to =
      ap (λ (s : List ℕ). begins s (drop at text)) (sym (link-line from b to))
      ∙ begins-then text h at (opening from) 32 (x_name b ++ (32 ∷ to ++ (10 ∷ [])))

  line-place : (at : ℕ) (from : List ℕ) (b : ℕ) (to : List ℕ)
      → met_at text (met_at text at (opening from)) (tail b to) ≡ met_at text at (names_line (xor_cover from b to))
  line-place at from b to = met-then text h at (opening from) (tail b to) ∙ ap (met_at text at) (link-line from b to)

  line-there : (at : ℕ) (from : List ℕ) (b : ℕ) (to : List ℕ) → IsWord from → IsWord to
      → equal (front (drop at text)) (names_line (xor_cover from b to)) ≡ begins (tail b to) (drop (met_at text at (opening from)) text)
  line-there at from b to e f =
      front-begins (names_line (xor_cover from b to)) (drop at text) (link-is-line from b to e f)
      ∙ line-met at from b to

  pub link-there : (n k : ℕ) (rs from : List ℕ) (m p at : ℕ) → IsWord from → (begun : ℕ) → begun ≡ met_at text at (opening from)
      → link n k rs from m p (front (drop at text))
      ≡ on (ltb (first n (linked_at text begun n m (length rs) p)) n)
      (More (state_by text n k rs m p begun (first n (linked_at text begun n m (length rs) p))))
  unfolding link linked_at
  link-there n k rs from m p at e begun g =
      attempt-first n (link_at n k rs from m p (front (drop at text))) (linked_at text begun n m (length rs) p) (state_by text n k rs m p begun)
      (λ b l.
      let u : equal (front (drop at text)) (names_line (xor_cover from b (z_name (length rs)))) ≡ begins (tail b (z_name (length rs))) (drop begun text) =
      rw g (line-there at from b (z_name (length rs)) e (z_word (length rs))) in
      let v : equal (front (drop at text)) (names_line (xor_cover from b (part_name (length rs) p))) ≡ begins (tail b (part_name (length rs) p)) (drop begun text) =
      rw g (line-there at from b (part_name (length rs) p) e (part-word (length rs) p)) in
      rw (u, v)
      (link-bools (ltb m (2 ^ b)) (begins (tail b (z_name (length rs))) (drop begun text)) (ltb (suc b) n)
      (begins (tail b (part_name (length rs) p)) (drop begun text)) _ _))

  -- a line of a chain that was met
  link-went : (at begun : ℕ) (from : List ℕ) (b : ℕ) (to : List ℕ) (st next : State) → IsWord from → IsWord to
      → begun ≡ met_at text at (opening from) → begins (tail b to) (drop begun text) ≡ true → step st (front (drop at text)) ≡ More next
      → fate text st at ≡ fate text next (met_at text begun (tail b to))
  link-went at begun from b to st next e f g q s =
      fate-met text h st at next (names_line (xor_cover from b to)) (link-is-line from b to e f)
      (line-met at from b to ∙ ap (λ (r : ℕ). begins (tail b to) (drop r text)) (sym g) ∙ q) s
      ∙ ap (fate text next) (sym (ap (λ (r : ℕ). met_at text r (tail b to)) g ∙ line-place at from b to))

  module _ (n i m p at begun : ℕ) (st : ℕ → List ℕ → State) (c : Chaining text n i m p at begun st) where
    said : (b : ℕ) → first n (linked_at text begun n m i p) ≡ b → (k : ℕ) (rs : List ℕ) → length rs ≡ i
        → step (st k rs) (front (drop at text))
        ≡ on (ltb b n)
        (More (cond (begins (tail b (z_name i)) (drop begun text)) (xor_due (next_row n k (rs ++ ((m + 2 ^ b) ∷ []))))
        (xor_due (LinkDue n k rs (m + 2 ^ b) p))))
    said b f k rs e = c.links k rs e ∙ rw f at (rw e at (link-there n k rs c.from m p at c.word begun c.opened))

    linked-last : (b : ℕ) → first n (linked_at text begun n m i p) ≡ b → b < n → begins (tail b (z_name i)) (drop begun text) ≡ true
        → Linked text n i p st at (Last (m + 2 ^ b) (met_at text begun (tail b (z_name i))))
    unfolding Linked
    linked-last b f l q =
        λ k rs e.
        link-went at begun c.from b (z_name i) (st k rs) (xor_due (next_row n k (rs ++ ((m + 2 ^ b) ∷ [])))) c.word (z_word i)
        c.opened q (said b f k rs e ∙ rw (lt-ltb b n l, q))

    linked-part : (b : ℕ) → first n (linked_at text begun n m i p) ≡ b → b < n → begins (tail b (z_name i)) (drop begun text) ≡ false
        → Linked text n i p st at (Part (m + 2 ^ b) (met_at text begun (tail b (part_name i p))))
    unfolding Linked linked_at
    linked-part b f l q =
        let v : linked_at text begun n m i p b ≡ true = rw f at (first_passes n (linked_at text begun n m i p) (omega arith)) in
        let w = and_both (ltb m (2 ^ b)) _ v in
        let x : ltb (suc b) n && begins (tail b (part_name i p)) (drop begun text) ≡ true = rw q at w.1 in
        λ k rs e.
        link-went at begun c.from b (part_name i p) (st k rs) (xor_due (LinkDue n k rs (m + 2 ^ b) p)) c.word (part-word i p)
        c.opened (and_both (ltb (suc b) n) _ x).1 (said b f k rs e ∙ rw (lt-ltb b n l, q))

    linked-by : (b : ℕ) → first n (linked_at text begun n m i p) ≡ b → Linked text n i p st at (link_by text begun n m i p b)
    unfolding link_by Linked
    linked-by b f = go (dec_lt b n)
      where
        some : b < n → (q : Bool) → begins (tail b (z_name i)) (drop begun text) ≡ q
            → Linked text n i p st at
            (cond q (Last (m + 2 ^ b) (met_at text begun (tail b (z_name i)))) (Part (m + 2 ^ b) (met_at text begun (tail b (part_name i p)))))
        some l true q = linked-last b f l q
        some l false q = linked-part b f l q

        go : Dec (b < n) → Linked text n i p st at (link_by text begun n m i p b)
        go (yes l) = rw (lt-ltb b n l) (some l (begins (tail b (z_name i)) (drop begun text)) refl)
        go (no l) =
            rw (le-ltb b n (omega arith))
            (λ k rs e. fate-stop text (st k rs) at (said b f k rs e ∙ rw (le-ltb b n (omega arith))))

    -- what comes of the chain's next line
    pub linked : Linked text n i p st at (link_of text begun n m i p)
    unfolding link_of
    linked = linked-by (first n (linked_at text begun n m i p)) refl

-- ---- a chain, cover by cover

-- what comes of a row: its number, below 2^n, and what is due after it; or the place where reading stops
unfoldable pub Chained : List ℕ → ℕ → ℕ → (ℕ → List ℕ → State) → ℕ → Result (ℕ × ℕ) ℕ → Type 0
Chained text n i st at (Ok (m, to)) =
    (m < 2 ^ n) × ((k : ℕ) (rs : List ℕ) → length rs ≡ i → fate text (st k rs) at ≡ fate text (next_row n k (rs ++ (m ∷ []))) to)
Chained text n i st at (Err to) = (k : ℕ) (rs : List ℕ) → length rs ≡ i → Stopped text (fate text (st k rs) at) to

-- what comes of the lines that end a row with this number
unfoldable pub Ended : List ℕ → State → ℕ → State → ℕ → Result (ℕ × ℕ) ℕ → Type 0
Ended text st at next v (Ok (m, to)) = (m ≡ v) × (fate text st at ≡ fate text next to)
Ended text st at next v (Err to) = Stopped text (fate text st at) to

-- the lines that end a row end its chain, or its copy
pub ended-chain : (text : List ℕ) (n i : ℕ) (st : ℕ → List ℕ → State) (at v to : ℕ) (due : State → State) → v < 2 ^ n
    → ((k : ℕ) (rs : List ℕ) → length rs ≡ i → fate text (st k rs) at ≡ fate text (due (next_row n k (rs ++ (v ∷ [])))) to)
    → (r : Result (ℕ × ℕ) ℕ) → ((s : State) → Ended text (due s) to s v r) → Chained text n i st at r
unfolding Chained Ended
ended-chain text n i st at v to due l g (Ok (u, p)) d =
    let e = (d (OutputDue 0 0 [])).0 in
    (rw e l, λ k rs f. g k rs f ∙ rw e (d (next_row n k (rs ++ (v ∷ [])))).1)
ended-chain text n i st at v to due l g (Err p) d = λ k rs f. stop-after (g k rs f) (d (next_row n k (rs ++ (v ∷ []))))

-- a chain has come from one place to another
pub record Going (text : List ℕ) (n i : ℕ) (st₀ : ℕ → List ℕ → State) (at₀ m p at begun : ℕ) : Type 0 where
  pub st : ℕ → List ℕ → State
  pub chain : Chaining text n i m p at begun st
  pub goes : (k : ℕ) (rs : List ℕ) → length rs ≡ i → fate text (st₀ k rs) at₀ ≡ fate text (st k rs) at

pub going-first : {text : List ℕ} {n i m p at begun : ℕ} {st : ℕ → List ℕ → State} → Chaining text n i m p at begun st → Going text n i st at m p at begun
going-first {text} {n} {i} {m} {p} {at} {begun} {st} c = record { st = st; chain = c; goes = λ k rs e. refl }

module _ (text : List ℕ) (h : length text < 2 ^ 63) (n i : ℕ) (st₀ : ℕ → List ℕ → State) (at₀ m p at begun : ℕ)
    (g : Going text n i st₀ at₀ m p at begun) where
  came : Linked text n i p g.st at (link_of text begun n m i p)
  came = linked text h n i m p at begun g.st g.chain

  pub going-none : None ≡ link_of text begun n m i p → Chained text n i st₀ at₀ (Err at)
  unfolding Linked Chained
  going-none e = λ k rs f. stop-after (g.goes k rs f) (rw (← e) at came k rs f)

  pub going-last : (v to : ℕ) → Last v to ≡ link_of text begun n m i p → v < 2 ^ n
      → (r : Result (ℕ × ℕ) ℕ) → ((s : State) → Ended text (xor_due s) to s v r) → Chained text n i st₀ at₀ r
  unfolding Linked
  going-last v to e l r d =
      ended-chain text n i st₀ at₀ v to xor_due l (λ k rs f. g.goes k rs f ∙ (rw (← e) at came) k rs f) r d

  pub going-broken : (v to : ℕ) → Part v to ≡ link_of text begun n m i p → (bad : ℕ) → ((s : State) → Came text (xor_due s) to s (Err bad))
      → Chained text n i st₀ at₀ (Err bad)
  unfolding Linked Chained Came
  going-broken v to e bad d = λ k rs f. stop-after (g.goes k rs f ∙ (rw (← e) at came) k rs f) (d (LinkDue n k rs v p))

  pub going-part : (v to : ℕ) → Part v to ≡ link_of text begun n m i p → (next : ℕ) → ((s : State) → Came text (xor_due s) to s (Ok next))
      → (r : ℕ) → r ≡ met_at text next (opening (part_name i p)) → Going text n i st₀ at₀ v (p + 1) next r
  unfolding Linked Came step
  going-part v to e next d r q =
      record {
        st = λ k rs. LinkDue n k rs v p;
        chain =
            record {
              from = part_name i p;
              word = part-word i p;
              opened = q;
              links = λ k rs f. rw (f, add-one p);
            };
        goes = λ k rs f. g.goes k rs f ∙ (rw (← e) at came) k rs f ∙ d (LinkDue n k rs v p);
      }

-- a part's number is small, as each part has more than doubled the row's inputs
pub few-parts : (m p : ℕ) → m < 65536 → 2 ^ p ≤ m + m → p < 17
few-parts m p l h = go (dec_lt p 17)
  where
    go : Dec (p < 17) → p < 17
    go (yes q) = q
    go (no q) = let e : 2 ^ 17 ≤ 2 ^ p = pow-le-pow_right {n = 2} (omega arith) {i = 17} {j = p} (omega arith) in absurd (omega arith)

pub parts_more : (m v p : ℕ) → 2 ^ p ≤ m + m → m + m < v → 2 ^ (p + 1) ≤ v + v
parts_more m v p h l = rw (add-one p) (omega (arith, pow_step 2 p))

-- What becomes of a text from a place on, where a state is due there (`fate`): a line that is due leads to the next place with the same
-- fate (`fate-next`), and one that is not stops the reading (`fate-stop`). A line stands at a place exactly where its bytes are met there.
-- Assumes nothing.
use Rattle.std.specs.Prelude.{◌≡◌, refl, Bool, true, false, not, cond, ◌&&◌, eqb, take, Result, Ok, Err}
use Rattle.std.proofs.Math.Path.{sym, ap}
use Rattle.std.proofs.Common.{◌∙◌, add-zero, zero-add, arith, eq-eqb, ne_eqb, eqb-true, drop_of_length-le, drop-drop, take-add}
use mathlib.Core.List.{List, [], ◌∷◌, ◌++◌}
use Prim.Native.Nat.{ℕ, suc, ◌+◌, ◌^◌, ◌≤◌, ◌<◌}
use Rattle.std.proofs.lemmas.Bool.{eqb-false, not-true}
use Rattle.std.proofs.Math.ListN.{length, get_or, drop}
use Rattle.std.proofs.Math.Seq.{drop-cons}
use Rattle.slices.specs.Places.{at}
use Rattle.slices.specs.Tests.{and_both}
use Rattle.sums.specs.Sums.{one}
use Rattle.block.specs.Text.{lines, onto, line_in, equal}
use Rattle.block.specs.ModelRead.{State, Outcome, Due, More, Whole, Bad, step, after, is_whole, good_lines}
use Rattle.block.specs.declared.Pattern.{Pattern}
use Rattle.read_laws.specs.Front.{front, line_first}
use Rattle.read_laws.specs.Tests.{equal-true, equal-same}
use Rattle.model_laws.specs.WordLines.{is_line}
use Rattle.read_names.specs.Met.{begins, met_at, lost, met-found, met-missed, met-yes}

-- ---- a line, and the front of a text

no_way : {A : Type 0} → false ≡ true → A
no_way e = let z : ◌≡◌ {A = ℕ} 0 1 = cc in absurd (omega arith)

-- a line is the first one of a text exactly where the text begins with it
pub front-begins : (s u : List ℕ) → is_line s ≡ true → equal (front u) s ≡ begins s u
unfolding is_line begins front equal
front-begins [] u e = no_way e
front-begins (b ∷ []) [] e = refl
front-begins (b ∷ []) (x ∷ u) e = go (eqb x 10) refl
  where
    go : (q : Bool) → eqb x 10 ≡ q → equal (cond q (10 ∷ []) (x ∷ front u)) (b ∷ []) ≡ eqb x b && true
    go true f = rw (eqb-true x 10 f, eqb-true b 10 e)
    go false f = let d : eqb x b ≡ false = ap (eqb x) (eqb-true b 10 e) ∙ f in rw d
front-begins (b ∷ c ∷ s) [] e = refl
front-begins (b ∷ c ∷ s) (x ∷ u) e =
    let a = and_both (not (eqb b 10)) (is_line (c ∷ s)) e in
    go (not-true (eqb b 10) a.0) (front-begins (c ∷ s) u a.1) (eqb x 10) refl
  where
    go : eqb b 10 ≡ false → equal (front u) (c ∷ s) ≡ begins (c ∷ s) u → (q : Bool) → eqb x 10 ≡ q
        → equal (cond q (10 ∷ []) (x ∷ front u)) (b ∷ c ∷ s) ≡ eqb x b && begins (c ∷ s) u
    go d ih true f =
        let g : eqb 10 b ≡ false = ne_eqb 10 b (λ w. eqb-false b 10 d (sym w)) in
        rw (eqb-true x 10 f, g)
    go d ih false f = ap (λ (q : Bool). eqb x b && q) ih

-- and then the others are the lines of the rest
pub lines-begins : (s u : List ℕ) → is_line s ≡ true → begins s u ≡ true → lines u ≡ s ∷ lines (drop (length s) u)
unfolding is_line begins lines
lines-begins [] u e f = no_way e
lines-begins (b ∷ []) [] e f = no_way f
lines-begins (b ∷ []) (x ∷ u) e f =
    let a = and_both (eqb x b) true f in
    let d : x ≡ 10 = eqb-true x b a.0 ∙ eqb-true b 10 e in
    rw (eq-eqb x 10 d, eqb-true b 10 e)
lines-begins (b ∷ c ∷ s) [] e f = no_way f
lines-begins (b ∷ c ∷ s) (x ∷ u) e f =
    let a = and_both (not (eqb b 10)) (is_line (c ∷ s)) e in
    let g = and_both (eqb x b) (begins (c ∷ s) u) f in
    let d : x ≡ b = eqb-true x b g.0 in
    let n : eqb x 10 ≡ false = ap (λ (y : ℕ). eqb y 10) d ∙ not-true (eqb b 10) a.0 in
    rw (n, lines-begins (c ∷ s) u a.1 g.1) (ap (λ (y : ℕ). (y ∷ c ∷ s) ∷ lines (drop (length (c ∷ s)) u)) d)

-- ---- how many lines end before a place

unfoldable pub ends : List ℕ → ℕ
ends [] = 0
ends (b ∷ l) = one (eqb b 10) + ends l

pub ends-append : (a b : List ℕ) → ends (a ++ b) ≡ ends a + ends b
unfolding ends
ends-append [] b = omega arith
ends-append (x ∷ a) b = let ih = ends-append a b in omega arith

-- a line that stands at the front ends one line
ends-line : (s u : List ℕ) → is_line s ≡ true → begins s u ≡ true → ends (take (length s) u) ≡ 1
unfolding is_line begins ends
ends-line [] u e f = no_way e
ends-line (b ∷ []) [] e f = no_way f
ends-line (b ∷ []) (x ∷ u) e f =
    let a = and_both (eqb x b) true f in
    rw (eq-eqb x 10 (eqb-true x b a.0 ∙ eqb-true b 10 e))
ends-line (b ∷ c ∷ s) [] e f = no_way f
ends-line (b ∷ c ∷ s) (x ∷ u) e f =
    let a = and_both (not (eqb b 10)) (is_line (c ∷ s)) e in
    let g = and_both (eqb x b) (begins (c ∷ s) u) f in
    let n : eqb x 10 ≡ false = ap (λ (y : ℕ). eqb y 10) (eqb-true x b g.0) ∙ not-true (eqb b 10) a.0 in
    rw n (zero-add (ends (take (length (c ∷ s)) u)) ∙ ends-line (c ∷ s) u a.1 g.1)

-- ---- what becomes of a text

pub record Fate : Type 0 where
  -- what its lines lead to
  pub outcome : Outcome
  -- how many lines are of the form due, those before the place with them
  pub good : ℕ

unfoldable pub fate : List ℕ → State → ℕ → Fate
fate text st at =
    record {
      outcome = after (More st) (lines (drop at text));
      good = ends (take at text) + good_lines (More st) (lines (drop at text));
    }

-- it is no model, and its first line that is not of the form due starts at a place
pub record Stopped (text : List ℕ) (f : Fate) (to : ℕ) : Type 0 where
  pub broken : is_whole f.outcome ≡ false
  pub line : f.good ≡ ends (take to text)

-- what reading from one state to another gives
unfoldable pub Came : List ℕ → State → ℕ → State → Result ℕ ℕ → Type 0
Came text st at to (Ok p) = fate text st at ≡ fate text to p
Came text st at to (Err p) = Stopped text (fate text st at) p

fate-is : (text : List ℕ) (st : State) (at : ℕ) (o : Outcome) (g : ℕ)
    → after (More st) (lines (drop at text)) ≡ o → ends (take at text) + good_lines (More st) (lines (drop at text)) ≡ g
    → fate text st at ≡ record { outcome = o; good = g }
unfolding fate
fate-is text st at o g p q = rw (p, q)

-- what one good line leads to
after-good : (st to : State) (l : List ℕ) (ls : List (List ℕ)) → step st l ≡ More to
    → (after (More st) (l ∷ ls) ≡ after (More to) ls) × (good_lines (More st) (l ∷ ls) ≡ suc (good_lines (More to) ls))
unfolding after good_lines
after-good st to l ls e = (ap (λ (o : Outcome). after o ls) e, rw e)

ends_next : (text : List ℕ) (at : ℕ) (s : List ℕ) → is_line s ≡ true → begins s (drop at text) ≡ true
    → ends (take (at + length s) text) ≡ ends (take at text) + 1
ends_next text at s e f =
    ap ends (take-add at (length s) text) ∙ ends-append (take at text) (take (length s) (drop at text))
    ∙ ap (λ (i : ℕ). ends (take at text) + i) (ends-line s (drop at text) e f)

lines_next : (text : List ℕ) (at : ℕ) (s : List ℕ) → is_line s ≡ true → begins s (drop at text) ≡ true
    → lines (drop at text) ≡ s ∷ lines (drop (at + length s) text)
lines_next text at s e f = lines-begins s (drop at text) e f ∙ ap (λ (u : List ℕ). s ∷ lines u) (drop-drop (length s) at text)

-- a line that is due: the same fate from the place after it on
pub fate-next : (text : List ℕ) (st : State) (at : ℕ) (to : State) (s : List ℕ) → is_line s ≡ true → begins s (drop at text) ≡ true
    → step st s ≡ More to → fate text st at ≡ fate text to (at + length s)
fate-next text st at to s e f g =
    let r = lines_next text at s e f in
    let a = after-good st to s (lines (drop (at + length s) text)) g in
    let n = ends_next text at s e f in
    let b : good_lines (More st) (lines (drop at text)) ≡ suc (good_lines (More to) (lines (drop (at + length s) text))) =
    ap (good_lines (More st)) r ∙ a.1 in
    fate-is text st at (after (More to) (lines (drop (at + length s) text)))
    (ends (take (at + length s) text) + good_lines (More to) (lines (drop (at + length s) text)))
    (ap (after (More st)) r ∙ a.0) (omega arith)
    ∙ sym (fate-is text to (at + length s) _ _ refl refl)

after-bad : (ls : List (List ℕ)) → after Bad ls ≡ Bad
unfolding after
after-bad [] = refl
after-bad (l ∷ ls) = after-bad ls

stops-here : (st : State) (ls : List (List ℕ)) → step st (line_in ls 0) ≡ Bad
    → (is_whole (after (More st) ls) ≡ false) × (good_lines (More st) ls ≡ 0)
unfolding after good_lines
stops-here st [] e = (refl, refl)
stops-here st (l ∷ ls) e = (ap is_whole (ap (λ (o : Outcome). after o ls) e ∙ after-bad ls), rw e)

-- a line that is not: the reading stops at it
pub fate-stop : (text : List ℕ) (st : State) (at : ℕ) → step st (front (drop at text)) ≡ Bad → Stopped text (fate text st at) at
unfolding fate
fate-stop text st at e =
    let h = stops-here st (lines (drop at text)) (ap (step st) (line_first (drop at text)) ∙ e) in
    record { broken = h.0; line = ap (λ (i : ℕ). ends (take at text) + i) h.1 ∙ add-zero (ends (take at text)) }

-- ---- the end of a model

after-whole : (st : State) (n k : ℕ) (sigma : List ℕ) (qs : List (List Pattern)) (l : List ℕ) (ls : List (List ℕ)) → step st l ≡ Whole n k sigma qs
    → (after (More st) (l ∷ ls) ≡ after (Whole n k sigma qs) ls) × (good_lines (More st) (l ∷ ls) ≡ suc (good_lines (Whole n k sigma qs) ls))
unfolding after good_lines
after-whole st n k sigma qs l ls e = (ap (λ (o : Outcome). after o ls) e, rw e)

-- nothing follows a whole model
more-bad : (n k : ℕ) (sigma : List ℕ) (qs : List (List Pattern)) (l : List ℕ) (ls : List (List ℕ))
    → (is_whole (after (Whole n k sigma qs) (l ∷ ls)) ≡ false) × (good_lines (Whole n k sigma qs) (l ∷ ls) ≡ 0)
unfolding after good_lines
more-bad n k sigma qs l ls = (ap is_whole (after-bad ls), refl)

over-bad : (n k : ℕ) (sigma : List ℕ) (qs : List (List Pattern)) (b : ℕ) (bs : List ℕ)
    → (is_whole (after (Whole n k sigma qs) (lines (b ∷ bs))) ≡ false) × (good_lines (Whole n k sigma qs) (lines (b ∷ bs)) ≡ 0)
unfolding lines
over-bad n k sigma qs b bs = go (eqb b 10) (lines bs)
  where
    go : (q : Bool) (ls : List (List ℕ))
        → (is_whole (after (Whole n k sigma qs) (cond q ((10 ∷ []) ∷ ls) (onto b ls))) ≡ false)
        × (good_lines (Whole n k sigma qs) (cond q ((10 ∷ []) ∷ ls) (onto b ls)) ≡ 0)
    go true ls = more-bad n k sigma qs (10 ∷ []) ls
    go false [] = more-bad n k sigma qs (b ∷ []) []
    go false (l ∷ ls) = more-bad n k sigma qs (b ∷ l) ls

module _ (text : List ℕ) (st : State) (at : ℕ) (s : List ℕ) (e : is_line s ≡ true) (f : begins s (drop at text) ≡ true)
    (n k : ℕ) (sigma : List ℕ) (qs : List (List Pattern)) (g : step st s ≡ Whole n k sigma qs) where
  -- the line that ends a model ends the text
  pub fate-whole : length text ≤ at + length s → (fate text st at).outcome ≡ Whole n k sigma qs
  unfolding fate after lines
  fate-whole l =
      ap (after (More st)) (lines_next text at s e f)
      ∙ (after-whole st n k sigma qs s (lines (drop (at + length s) text)) g).0
      ∙ ap (λ (u : List ℕ). after (Whole n k sigma qs) (lines u)) (drop_of_length-le text {i = at + length s} l)

  -- or something follows, and the reading stops there
  pub fate-over : at + length s < length text → Stopped text (fate text st at) (at + length s)
  unfolding fate
  fate-over l =
      let p = at + length s in
      let a = after-whole st n k sigma qs s (lines (drop p text)) g in
      let u : drop p text ≡ get_or text p 0 ∷ drop (suc p) text = drop-cons text p 0 l in
      let b = over-bad n k sigma qs (get_or text p 0) (drop (suc p) text) in
      let i : good_lines (More st) (lines (drop at text)) ≡ 1 =
      ap (good_lines (More st)) (lines_next text at s e f) ∙ a.1
      ∙ ap suc (ap (λ (x : List ℕ). good_lines (Whole n k sigma qs) (lines x)) u ∙ b.1) in
      record {
        broken =
            ap (λ (o : Outcome). is_whole o) (ap (after (More st)) (lines_next text at s e f) ∙ a.0)
            ∙ ap (λ (x : List ℕ). is_whole (after (Whole n k sigma qs) (lines x))) u ∙ b.0;
        line = ap (λ (x : ℕ). ends (take at text) + x) i ∙ sym (ends_next text at s e f);
      }

-- ---- a line that is due, or another

pub due-met : (text : List ℕ) (at : ℕ) (s : List ℕ) (to : State) → is_line s ≡ true → begins s (drop at text) ≡ true
    → fate text (Due s to) at ≡ fate text to (at + length s)
unfolding step
due-met text at s to e f = fate-next text (Due s to) at to s e f (rw (equal-same s))

pub due-missed : (text : List ℕ) (at : ℕ) (s : List ℕ) (to : State) → is_line s ≡ true → begins s (drop at text) ≡ false
    → Stopped text (fate text (Due s to) at) at
unfolding step
due-missed text at s to e f = fate-stop text (Due s to) at (rw (front-begins s (drop at text) e, f))

-- by the place that was answered
pub line-missed : (text : List ℕ) → length text < 2 ^ 63 → (at : ℕ) (s : List ℕ) → is_line s ≡ true → met_at text at s ≡ lost
    → begins s (drop at text) ≡ false
unfolding is_line
line-missed text h at [] e d = no_way e
line-missed text h at (x ∷ s) e d = met-missed text h at (x ∷ s) (omega arith) d

pub due-came : (text : List ℕ) → length text < 2 ^ 63 → (at : ℕ) (s : List ℕ) (to : State) (r : ℕ) → is_line s ≡ true
    → r ≡ met_at text at s → (r ≡ lost → ⊥) → fate text (Due s to) at ≡ fate text to r
due-came text h at s to r e p d =
    let f = met-found text h at s (λ w. d (p ∙ w)) in
    due-met text at s to e f ∙ ap (fate text to) (sym (p ∙ met-yes text h at s f))

pub due-lost : (text : List ℕ) → length text < 2 ^ 63 → (at : ℕ) (s : List ℕ) (to : State) (r : ℕ) → is_line s ≡ true
    → r ≡ met_at text at s → r ≡ lost → Stopped text (fate text (Due s to) at) at
due-lost text h at s to r e p d = due-missed text at s to e (line-missed text h at s e (sym p ∙ d))

-- a line that was met, of several that may stand there
pub fate-met : (text : List ℕ) → length text < 2 ^ 63 → (st : State) (at : ℕ) (to : State) (s : List ℕ) → is_line s ≡ true
    → begins s (drop at text) ≡ true → step st (front (drop at text)) ≡ More to → fate text st at ≡ fate text to (met_at text at s)
fate-met text h st at to s e f g =
    let l : front (drop at text) ≡ s = equal-true (front (drop at text)) s (front-begins s (drop at text) e ∙ f) in
    fate-next text st at to s e f (ap (step st) (sym l) ∙ g) ∙ ap (fate text to) (sym (met-yes text h at s f))

-- what stops after one way stops before it
pub stop-after : {text : List ℕ} {f g : Fate} {p : ℕ} → f ≡ g → Stopped text g p → Stopped text f p
stop-after {text} {f} {g} {p} e h = rw e h

pub came-after : (text : List ℕ) (st : State) (at : ℕ) (mid : State) (p : ℕ) (to : State) (r : Result ℕ ℕ)
    → fate text st at ≡ fate text mid p → Came text mid p to r → Came text st at to r
unfolding Came
came-after text st at mid p to (Ok q) e h = e ∙ h
came-after text st at mid p to (Err q) e h = stop-after e h

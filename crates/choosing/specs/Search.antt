-- The search over the walk, which finds what the search over all numbers finds: the best of a list of numbers, as a loop has it, by a
-- test that asks for the values of two numbers alone. Not here: the walk itself (walks), and the step that the choice belongs to
-- (`Steps`). Assumes nothing.
use Rattle.std.specs.Prelude.{◌≡◌, refl, Bool, true, false, ◌&&◌, ◌||◌, List, [], ◌∷◌, ◌++◌, ℕ, zero, suc, ◌+◌, ◌^◌, ◌≤◌, ◌<◌, eqb, leb, length}
use Rattle.std.proofs.Common.{sym, ap₂, ◌∙◌, add-one, arith, ne_eqb, le-ltb, length-append}
use Rattle.std.proofs.Math.Path.{ap}
use Rattle.std.proofs.Math.Bool.{cond}
use Rattle.std.proofs.lemmas.Bool.{false≢true}
use Rattle.std.proofs.Math.Decide.{le_ind}
use Rattle.std.specs.Int.Count.{ones}
use Rattle.std.proofs.Math.ListN.{get_or-append}
use Rattle.bits.specs.Ones.{ones_above}
use Rattle.slices.specs.Places.{at}
use Rattle.block.specs.Basis.{before, better, best, apply}
use Rattle.choice_laws.specs.Choice.{better-no}
use Rattle.candidates.specs.Light.{light}
use Rattle.walks.specs.Walk.{walk_to, walk, Walked, push-last, ones-light}
use Rattle.choosing.specs.Steps.{candidate_by}

-- of c 0 .. c (m - 1) that pass, the one that stands before the others; 0 where none passes
unfoldable pub best_of : (ℕ → ℕ → Bool) → (ℕ → Bool) → (ℕ → ℕ) → ℕ → ℕ
best_of early ok c zero = 0
best_of early ok c (suc m) = better early ok (best_of early ok c m) (c m)

best-of-cong : (early : ℕ → ℕ → Bool) (ok : ℕ → Bool) (c d : ℕ → ℕ) (m : ℕ) → ((i : ℕ) → i < m → c i ≡ d i)
    → best_of early ok c m ≡ best_of early ok d m
unfolding best_of
best-of-cong early ok c d zero h = refl
best-of-cong early ok c d (suc m) h = ap₂ (better early ok) (best-of-cong early ok c d m (λ i b. h i (omega arith))) (h m (omega arith))

best-of-push : (early : ℕ → ℕ → Bool) (ok : ℕ → Bool) (l : List ℕ) (x : ℕ)
    → best_of early ok (at (l ++ (x ∷ []))) (length (l ++ (x ∷ []))) ≡ better early ok (best_of early ok (at l) (length l)) x
unfolding best_of
best-of-push early ok l x =
    ap (best_of early ok (at (l ++ (x ∷ [])))) (length-append l (x ∷ []) ∙ add-one (length l))
    ∙ ap₂ (better early ok)
    (best-of-cong early ok (at (l ++ (x ∷ []))) (at l) (length l) (λ i h. get_or-append l (x ∷ []) 0 i h)) (push-last l x)

-- of a test that only numbers with 1 to w one-bits pass: the search over those finds what the search over all finds
best-walk : (early : ℕ → ℕ → Bool) (ok : ℕ → Bool) (w m : ℕ) → ((t : ℕ) → t < m → ok t ≡ true → light w t ≡ true)
    → best early ok m ≡ best_of early ok (at (walk_to w m)) (length (walk_to w m))
unfolding best best_of walk_to
best-walk early ok w zero h = refl
best-walk early ok w (suc m) h = go (light w m) refl (best-walk early ok w m (λ t b e. h t (omega arith) e))
  where
    l : List ℕ
    l = walk_to w m

    fails : light w m ≡ false → (b : Bool) → ok m ≡ b → ok m ≡ false
    fails e true d = absurd (false≢true (sym e ∙ h m (omega arith) d))
    fails e false d = d

    go : (b : Bool) → light w m ≡ b → best early ok m ≡ best_of early ok (at l) (length l)
        → better early ok (best early ok m) m ≡ best_of early ok (at (cond b (l ++ (m ∷ [])) l)) (length (cond b (l ++ (m ∷ [])) l))
    go true e ih = ap (λ (b : ℕ). better early ok b m) ih ∙ sym (best-of-push early ok l m)
    go false e ih = better-no early ok (best early ok m) m (fails e (ok m) refl) ∙ ih

-- a candidate by the matrix has 1 to w one-bits
candidate-light : (s : ℕ → ℕ) (n k w t : ℕ) → candidate_by s n k w t ≡ true → light w t ≡ true
unfolding candidate_by light
candidate-light s n k w t h = go (leb 1 (ones t)) (leb (ones t) w) h
  where
    go : (a b : Bool) → a && (b && leb (2 ^ k) (apply s n t)) ≡ true → a && b ≡ true
    go true true e = refl
    go true false e = absurd (false≢true e)
    go false b e = absurd (false≢true e)

-- of a number with 1 to w one-bits the matrix decides
candidate-by : (s : ℕ → ℕ) (n k w t : ℕ) → light w t ≡ true → candidate_by s n k w t ≡ leb (2 ^ k) (apply s n t)
unfolding candidate_by light
candidate-by s n k w t h = go (leb 1 (ones t)) (leb (ones t) w) h
  where
    go : (a b : Bool) → a && b ≡ true → a && (b && leb (2 ^ k) (apply s n t)) ≡ leb (2 ^ k) (apply s n t)
    go true true e = refl
    go true false e = absurd (false≢true e)
    go false b e = absurd (false≢true e)

-- b, of value y, is the best of c 0 .. c (i - 1); where it is 0 there is none, and y is 0
pub record Leads (v : ℕ → ℕ) (ok : ℕ → Bool) (c : ℕ → ℕ) (i b y : ℕ) : Type 0 where
  pub number : b ≡ best_of (before v) ok c i
  pub value : (b ≡ 0 → ⊥) → y ≡ v b
  pub none : b ≡ 0 → y ≡ 0

pub leads-none : (v : ℕ → ℕ) (ok : ℕ → Bool) (c : ℕ → ℕ) → Leads v ok c 0 0 0
unfolding best_of
leads-none v ok c = record { number = refl; value = λ n. absurd (n refl); none = λ e. refl }

-- a number of a smaller value than the best so far does not take its place
smaller-left : (v : ℕ → ℕ) (ok : ℕ → Bool) (c : ℕ → ℕ) (i b y : ℕ) → Leads v ok c i b y → v (c i) < y → Leads v ok c (suc i) b y
unfolding best_of better before
smaller-left v ok c i b y p h =
    record { number = p.number ∙ sym kept; value = p.value; none = p.none }
  where
    some : b ≡ 0 → ⊥
    some e = omega (arith, p.none e)

    less : v (c i) < v b
    less = omega (arith, p.value some)

    passed : (q : Bool) → q && false ≡ false
    passed true = refl
    passed false = refl

    kept : best_of (before v) ok c (suc i) ≡ best_of (before v) ok c i
    kept =
        ap (λ (d : ℕ). better (before v) ok d (c i)) (sym p.number)
        ∙ ap (λ (q : Bool). cond (ok (c i) && q) (c i) b)
        (rw (ne_eqb b 0 some, le-ltb (v b) (v (c i)) (omega (arith, less)), ne_eqb (v (c i)) (v b) (λ e. omega (arith, less))))
        ∙ ap (λ (q : Bool). cond q (c i) b) (passed (ok (c i)))
        ∙ p.number

-- nor do several
pub leads-past : (v : ℕ → ℕ) (ok : ℕ → Bool) (c : ℕ → ℕ) (i r b y : ℕ) → i ≤ r → ((j : ℕ) → i ≤ j → j < r → v (c j) < y)
    → Leads v ok c i b y → Leads v ok c r b y
leads-past v ok c i r b y h s p =
    le_ind (λ (m : ℕ). m ≤ r → Leads v ok c m b y) (λ k. p) (λ m k e d. smaller-left v ok c m b y (e (omega arith)) (s m k d)) r h (omega arith)

module _ (v : ℕ → ℕ) (s : ℕ → ℕ) (n k w : ℕ) (c : ℕ → ℕ) (i b y x : ℕ) (p : Leads v (candidate_by s n k w) c i b y)
    (few : light w (c i) ≡ true) (here : x ≡ v (c i)) (r : Bool)
    (asked : (f : ℕ → ℕ) → f (c i) ≡ x → ((b ≡ 0 → ⊥) → f b ≡ y) → r ≡ (leb (2 ^ k) (apply s n (c i)) && (eqb b 0 || before f (c i) b)))
  where
    same : r ≡ (candidate_by s n k w (c i) && (eqb b 0 || before v (c i) b))
    same =
        asked v (sym here) (λ some. sym (p.value some))
        ∙ ap (λ (z : Bool). z && (eqb b 0 || before v (c i) b)) (sym (candidate-by s n k w (c i) few))

    more : best_of (before v) (candidate_by s n k w) c (i + 1) ≡ cond r (c i) b
    unfolding best_of better
    more =
        ap (best_of (before v) (candidate_by s n k w) c) (add-one i)
        ∙ ap (λ (b : ℕ). better (before v) (candidate_by s n k w) b (c i)) (sym p.number)
        ∙ ap (λ (z : Bool). cond z (c i) b) (sym same)

    -- the next number takes the place of the best so far
    pub leads-taken : (d z : ℕ) → r ≡ true → d ≡ c i → z ≡ x → Leads v (candidate_by s n k w) c (i + 1) d z
    leads-taken d z e f g =
        rw (f, g) (record { number = sym (more ∙ ap (λ (q : Bool). cond q (c i) b) e); value = λ n. here; none = λ z. absurd (some z) })
      where
        some : c i ≡ 0 → ⊥
        some z = omega (arith, ones_above (c i) (ones-light w (c i) few).0)

    -- or does not
    pub leads-left : (d z : ℕ) → r ≡ false → d ≡ b → z ≡ y → Leads v (candidate_by s n k w) c (i + 1) d z
    leads-left d z e f g =
        rw (f, g) (record { number = sym (more ∙ ap (λ (q : Bool). cond q (c i) b) e); value = p.value; none = p.none })

-- the best of the walk is the best candidate of all
pub leads-all : (v s : ℕ → ℕ) (n k w : ℕ) (l : List ℕ) (count b y : ℕ) → Walked n w l count
    → Leads v (candidate_by s n k w) (at l) count b y → b ≡ best (before v) (candidate_by s n k w) (2 ^ n)
unfolding walk
leads-all v s n k w l count b y h p =
    p.number
    ∙ best-of-cong (before v) (candidate_by s n k w) (at l) (at (walk_to w (2 ^ n))) count h.each
    ∙ ap (best_of (before v) (candidate_by s n k w) (at (walk_to w (2 ^ n)))) h.counted
    ∙ sym (best-walk (before v) (candidate_by s n k w) w (2 ^ n) (λ t b e. candidate-light s n k w t e))

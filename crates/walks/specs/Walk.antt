-- The walk: the numbers below 2^n with 1 to w one-bits, which are all that can be candidates, in ascending order; and the value of a
-- number by its place in the walk. Not here: the search over the walk (choosing, `Search`). Assumes nothing.
use Rattle.std.specs.Prelude.{◌≡◌, refl, true, false, cond, leb, drop}
use Rattle.std.proofs.Common.{sym, ◌∙◌, add-zero, add-one, arith, length-append, pow_pos, get_or-append-add}
use Rattle.std.proofs.Math.Path.{ap}
use Rattle.std.proofs.Math.Bool.{Bool}
use Rattle.std.proofs.lemmas.Bool.{false≢true}
use mathlib.Core.List.{List, [], ◌∷◌, ◌++◌}
use Prim.Native.Nat.{ℕ, zero, suc, ◌+◌, ◌^◌, ◌≤◌, ◌<◌}
use Rattle.std.proofs.Math.Decide.{dec_lt}
use borrow.Author.Tests.{eq-eqb, ne_eqb, eqb-true, leb-true, le-leb}
use Rattle.std.specs.Int.Count.{ones}
use Rattle.std.proofs.Math.Dec.{eqb}
use Rattle.std.proofs.Math.ListN.{length, get_or-append}
use Rattle.slices.specs.Places.{at, tab, first, over}
use Rattle.slices.specs.Filled.{over-at}
use Rattle.slices.specs.Least.{first-is, first_found, first_passes}
use Rattle.slices.specs.Tests.{and_both}
use Rattle.sums.specs.Laws.{below_suc}
use Rattle.choice_laws.specs.Chosen.{Agree}
use Rattle.candidates.specs.Light.{light}

-- the numbers below m with 1 to w one-bits, in ascending order
unfoldable pub walk_to : ℕ → ℕ → List ℕ
walk_to w zero = []
walk_to w (suc m) = cond (light w m) (walk_to w m ++ (m ∷ [])) (walk_to w m)

-- those below 2^n
unfoldable pub walk : ℕ → ℕ → List ℕ
walk n w = walk_to w (2 ^ n)

-- the first `count` places of l hold the walk
pub record Walked (n w : ℕ) (l : List ℕ) (count : ℕ) : Type 0 where
  pub counted : count ≡ length (walk n w)
  pub short : count < 2 ^ n
  pub each : (i : ℕ) → i < count → at l i ≡ at (walk n w) i

-- the value of t: the one at t's place among the first `count` of l
unfoldable pub value_at : List ℕ → List ℕ → ℕ → ℕ → ℕ
value_at l values count t = at values (first count (λ i. eqb (at l i) t))

-- ---- the numbers of the walk

-- 1 to w one-bits
light-ones : (w t : ℕ) → 1 ≤ ones t → ones t ≤ w → light w t ≡ true
unfolding light
light-ones w t h k = rw (le-leb 1 (ones t) h, le-leb (ones t) w k)

pub ones-light : (w t : ℕ) → light w t ≡ true → (1 ≤ ones t) × (ones t ≤ w)
unfolding light
ones-light w t e =
    let both = and_both (leb 1 (ones t)) (leb (ones t) w) e in
    (leb-true 1 (ones t) both.0, leb-true (ones t) w both.1)

-- what holds at each place of a list, and at one place more
push-all : (P : ℕ → ℕ → Type 0) (l : List ℕ) (x : ℕ) → ((i : ℕ) → i < length l → P i (at l i)) → P (length l) x
    → (i : ℕ) → i < length (l ++ (x ∷ [])) → P i (at (l ++ (x ∷ [])) i)
push-all P l x h p i b = go (dec_lt i (length l))
  where
    go : Dec (i < length l) → P i (at (l ++ (x ∷ [])) i)
    go (yes k) = rw (get_or-append l (x ∷ []) 0 i k) (h i k)
    go (no n) =
        let e : length l + 0 ≡ i = omega (arith, length-append l (x ∷ [])) in
        let f : length l ≡ i = omega arith in
        rw (← e) (rw (get_or-append-add l (x ∷ []) 0 0, e, ← f) p)

-- the last of them
pub push-last : (l : List ℕ) (x : ℕ) → at (l ++ (x ∷ [])) (length l) ≡ x
push-last l x =
    push-all (λ i y. i ≡ length l → y ≡ x) l x (λ i h f. absurd (omega arith)) (λ f. refl) (length l)
    (omega (arith, length-append l (x ∷ []))) refl

-- what the walk below m holds: numbers below m with 1 to w one-bits, each at the place that is the number of those before it, and
-- every such number
record Walks (w m : ℕ) (l : List ℕ) : Type 0 where
  pub below : (i : ℕ) → i < length l → at l i < m
  pub few : (i : ℕ) → i < length l → light w (at l i) ≡ true
  pub place : (i : ℕ) → i < length l → length (walk_to w (at l i)) ≡ i
  pub held : (t : ℕ) → t < m → light w t ≡ true → (length (walk_to w t) < length l) × (at l (length (walk_to w t)) ≡ t)

walks : (w m : ℕ) → Walks w m (walk_to w m)
unfolding walk_to
walks w zero =
    record {
      below = λ i h. absurd (omega arith);
      few = λ i h. absurd (omega arith);
      place = λ i h. absurd (omega arith);
      held = λ t h e. absurd (omega arith);
    }
walks w (suc m) = go (light w m) refl (walks w m)
  where
    l : List ℕ
    l = walk_to w m

    go : (b : Bool) → light w m ≡ b → Walks w m l → Walks w (suc m) (cond b (l ++ (m ∷ [])) l)
    go true e s =
        record {
          below = push-all (λ i x. x < suc m) l m (λ i h. omega (arith, s.below i h)) (omega arith);
          few = push-all (λ i x. light w x ≡ true) l m s.few e;
          place = push-all (λ i x. length (walk_to w x) ≡ i) l m s.place refl;
          held =
              below_suc (λ t. light w t ≡ true → (length (walk_to w t) < length (l ++ (m ∷ []))) × (at (l ++ (m ∷ [])) (length (walk_to w t)) ≡ t)) m
              (λ t h d.
              let p = s.held t h d in
              (omega (arith, p.0, length-append l (m ∷ [])), get_or-append l (m ∷ []) 0 (length (walk_to w t)) p.0 ∙ p.1))
              (λ d. (omega (arith, length-append l (m ∷ [])), push-last l m));
        }
    go false e s =
        record {
          below = λ i h. omega (arith, s.below i h);
          few = s.few;
          place = s.place;
          held =
              below_suc (λ t. light w t ≡ true → (length (walk_to w t) < length l) × (at l (length (walk_to w t)) ≡ t)) m s.held
              (λ d. absurd (false≢true (sym e ∙ d)));
        }

-- 0 is none of them
walk-short : (w m : ℕ) → length (walk_to w (suc m)) ≤ m
unfolding walk_to light ones
walk-short w zero = go (light w 0) refl
  where
    go : (b : Bool) → light w 0 ≡ b → length {A = ℕ} (cond b ([] ++ (0 ∷ [])) []) ≤ 0
    go true e = absurd (false≢true e)
    go false e = omega arith
walk-short w (suc m) = go (light w (suc m)) (walk-short w m)
  where
    go : (b : Bool) → length (walk_to w (suc m)) ≤ m → length (cond b (walk_to w (suc m) ++ (suc m ∷ [])) (walk_to w (suc m))) ≤ suc m
    go true h = omega (arith, length-append (walk_to w (suc m)) (suc m ∷ []))
    go false h = omega arith

-- ---- the walk as a loop lays it out

pub walk_none : (w : ℕ) → walk_to w 0 ≡ []
unfolding walk_to
walk_none w = refl

pub walk-taken : (w m : ℕ) → light w m ≡ true → walk_to w (m + 1) ≡ walk_to w m ++ (m ∷ [])
unfolding walk_to
walk-taken w m h = rw (add-one m, h)

walk-left : (w m : ℕ) → light w m ≡ false → walk_to w (m + 1) ≡ walk_to w m
unfolding walk_to
walk-left w m h = rw (add-one m, h)

-- numbers that are passed over
pub walk-past : (w t r : ℕ) → ((i : ℕ) → i < r → light w (t + i) ≡ false) → walk_to w (t + r) ≡ walk_to w t
walk-past w t zero h = ap (walk_to w) (add-zero t)
walk-past w t (suc r) h =
    let e : t + suc r ≡ t + r + 1 = omega arith in
    ap (walk_to w) e ∙ walk-left w (t + r) (h r (omega arith)) ∙ walk-past w t r (λ i b. h i (omega arith))

-- a number of the walk has a place below its end
pub walk-room : (n w t : ℕ) → light w t ≡ true → t < 2 ^ n → length (walk_to w t) < length (walk n w)
unfolding walk
walk-room n w t h b = ((walks w (2 ^ n)).held t b h).0

-- the walk leaves at least one number out: 0
pub walk-below : (n w : ℕ) → length (walk n w) < 2 ^ n
unfolding walk
walk-below n w = few (2 ^ n) (pow_pos n)
  where
    few : (m : ℕ) → 0 < m → length (walk_to w m) < m
    few zero h = absurd (omega arith)
    few (suc m) h = omega (arith, walk-short w m)

-- the walk at the front of a list
pub walked : (n w : ℕ) (l m : List ℕ) (count : ℕ) → m ≡ over (walk n w) l → count ≡ length (walk n w) → Walked n w m count
unfolding walk
walked n w l m count e d =
    record {
      counted = d;
      short = omega (arith, d, walk-below n w);
      each = λ i h.
          ap (λ (x : List ℕ). at x i) e ∙ get_or-append (walk_to w (2 ^ n)) (drop (length (walk_to w (2 ^ n))) l) 0 i (omega arith);
    }

-- ---- the walk in a list, and values by place

module _ (n w : ℕ) (l : List ℕ) (count : ℕ) (s : Walked n w l count) where
  here : (i : ℕ) → i < count → i < length (walk_to w (2 ^ n))
  unfolding walk
  here i h = omega (arith, s.counted)

  -- the numbers there are below 2^n
  pub walked-lt : (i : ℕ) → i < count → at l i < 2 ^ n
  unfolding walk
  walked-lt i h = rw (s.each i h) ((walks w (2 ^ n)).below i (here i h))

  -- and have 1 to w one-bits
  pub walked-light : (i : ℕ) → i < count → light w (at l i) ≡ true
  unfolding walk
  walked-light i h = rw (s.each i h) ((walks w (2 ^ n)).few i (here i h))

  -- each at the place that is the number of those before it
  pub walked-place : (i : ℕ) → i < count → length (walk_to w (at l i)) ≡ i
  unfolding walk
  walked-place i h = rw (s.each i h) ((walks w (2 ^ n)).place i (here i h))

  -- no number stands there twice
  walked_once : (i j : ℕ) → i < count → j < count → at l i ≡ at l j → i ≡ j
  walked_once i j h k e = sym (walked-place i h) ∙ ap (λ (t : ℕ). length (walk_to w t)) e ∙ walked-place j k

  -- the value of the number at a place is the value there
  pub value-here : (values : List ℕ) (i : ℕ) → i < count → value_at l values count (at l i) ≡ at values i
  unfolding value_at
  value-here values i h =
      ap (at values)
      (first-is count (λ j. eqb (at l j) (at l i)) i (omega arith)
      (λ j b. ne_eqb (at l j) (at l i) (λ e. omega (arith, walked_once j i (omega arith) h e)))
      (λ b. eq-eqb (at l i) (at l i) refl))

  -- values that hold f of the number at each place agree with f where the rule asks
  pub value-agree : (f : ℕ → ℕ) (r values : List ℕ) → values ≡ over (tab count (λ i. f (at l i))) r → Agree (value_at l values count) f n w
  unfolding value_at walk
  value-agree f r values g t h a b =
      let p = (walks w (2 ^ n)).held t h (light-ones w t a b) in
      let k : length (walk_to w t) < count = omega (arith, p.0, s.counted) in
      let q : ℕ → Bool = λ i. eqb (at l i) t in
      let d : first count q < count = first_found count q (length (walk_to w t)) k (eq-eqb (at l (length (walk_to w t))) t (s.each _ k ∙ p.1)) in
      ap (λ (x : List ℕ). at x (first count q)) g
      ∙ over-at count (λ i. f (at l i)) r 0 (first count q) d
      ∙ ap f (eqb-true (at l (first count q)) t (first_passes count q d))

-- The walk by the printed list: the numbers of a list up to a place that have 1 to w one-bits, the place where the list is cut at 2^n, and that
-- this is the walk where the list follows its rule. Assumes nothing.
use Rattle.std.specs.Prelude.{◌≡◌, true, false, length, set}
use Rattle.std.proofs.Math.Path.{refl, sym, ap}
use Rattle.std.proofs.Common.{◌∙◌, add-one, arith, length-append, pow_mono}
use Rattle.std.proofs.Math.Bool.{Bool, cond}
use mathlib.Core.List.{List, [], ◌∷◌, ◌++◌}
use Prim.Native.Nat.{ℕ, zero, suc, ◌+◌, ◌-◌, ◌^◌, ◌≤◌, ◌<◌}
use Rattle.std.proofs.Math.Decide.{dec_lt, ℕ_discrete, le_ind}
use borrow.Author.Tests.{leb-true, leb-false, le-leb}
use Rattle.std.proofs.Math.Dec.{leb}
use Rattle.slices.specs.Places.{at, first}
use Rattle.slices.specs.Least.{first-is, first-le, first_below, first_passes}
use Rattle.slices.specs.Laid.{Laid, laid_more}
use Rattle.candidate_list.specs.Printed.{PrintedList}
use Rattle.candidates.specs.Light.{light}
use Rattle.walks.specs.Walk.{walk_to, walk, walk-past, ones-light}
use Rattle.walks.specs.Ascending.{ascending-le}

-- the numbers among the first i of a list that have 1 to w one-bits: the heavier are passed over
unfoldable pub kept : ℕ → List ℕ → ℕ → List ℕ
kept w l zero = []
kept w l (suc i) = cond (light w (at l i)) (kept w l i ++ (at l i ∷ [])) (kept w l i)

-- the place of the first number of a list that is not below 2^n
unfoldable pub cut : ℕ → List ℕ → ℕ
cut n l = first (length l) (λ i. leb (2 ^ n) (at l i))

-- ---- as a loop over the list comes to them

pub kept-none : (w : ℕ) (l : List ℕ) → kept w l 0 ≡ []
unfolding kept
kept-none w l = refl

kept-taken : (w : ℕ) (l : List ℕ) (i : ℕ) → light w (at l i) ≡ true → kept w l (i + 1) ≡ kept w l i ++ (at l i ∷ [])
unfolding kept
kept-taken w l i h = rw (add-one i, h)

kept-left : (w : ℕ) (l : List ℕ) (i : ℕ) → light w (at l i) ≡ false → kept w l (i + 1) ≡ kept w l i
unfolding kept
kept-left w l i h = rw (add-one i, h)

-- a number that is kept, and one that is passed over
pub laid_kept : (w : ℕ) (l : List ℕ) (i : ℕ) (m₀ m k : List ℕ) (count r : ℕ) → Laid (kept w l i) m₀ m count → light w (at l i) ≡ true
    → count < length m₀ → k ≡ set m count (at l i) → r ≡ count + 1 → Laid (kept w l (i + 1)) m₀ k r
laid_kept w l i m₀ m k count r s h b e d = rw (kept-taken w l i h) (laid_more (kept w l i) m₀ m k count r (at l i) s b e d)

pub laid-left : (w : ℕ) (l : List ℕ) (i : ℕ) (m₀ m k : List ℕ) (count r : ℕ) → Laid (kept w l i) m₀ m count → light w (at l i) ≡ false
    → k ≡ m → r ≡ count → Laid (kept w l (i + 1)) m₀ k r
laid-left w l i m₀ m k count r s h e d = rw (kept-left w l i h, e, d) s

kept_more : (w : ℕ) (l : List ℕ) (i : ℕ) → length (kept w l i) ≤ length (kept w l (suc i))
unfolding kept
kept_more w l i = go (light w (at l i))
  where
    go : (b : Bool) → length (kept w l i) ≤ length (cond b (kept w l i ++ (at l i ∷ [])) (kept w l i))
    go true = omega (arith, length-append (kept w l i) (at l i ∷ []))
    go false = omega arith

-- a number that is kept has a place below the end
pub kept-room : (w : ℕ) (l : List ℕ) (i c : ℕ) → light w (at l i) ≡ true → i < c → length (kept w l i) < length (kept w l c)
kept-room w l i c h b =
    omega (arith, ap length (rw (add-one i) at (kept-taken w l i h)), length-append (kept w l i) (at l i ∷ []), later)
  where
    later : length (kept w l (suc i)) ≤ length (kept w l c)
    later =
        le_ind (λ (j : ℕ). length (kept w l (suc i)) ≤ length (kept w l j)) (omega arith) (λ j k e. omega (arith, kept_more w l j)) c b

module _ (n : ℕ) (l : List ℕ) (i : ℕ) (h : i ≤ cut n l) where
  -- a number below 2^n comes before the cut
  pub cut-more : i < length l → at l i < 2 ^ n → i < cut n l
  unfolding cut
  cut-more b low = go (ℕ_discrete i c)
    where
      past : ℕ → Bool
      past i = leb (2 ^ n) (at l i)

      c : ℕ
      c = first (length l) past

      go : Dec (i ≡ c) → i < c
      go (yes e) = absurd (omega (arith, leb-true (2 ^ n) (at l c) (first_passes (length l) past (omega arith)), ap (at l) e))
      go (no f) = omega arith

  -- the cut is at the first that is not, or at the end
  pub cut-here : (i < length l → 2 ^ n ≤ at l i) → cut n l ≡ i
  unfolding cut
  cut-here high =
      first-is (length l) (λ k. leb (2 ^ n) (at l k)) i (omega (arith, first-le (length l) (λ k. leb (2 ^ n) (at l k))))
      (λ j b. first_below (length l) (λ k. leb (2 ^ n) (at l k)) j (omega arith)) (λ b. le-leb (2 ^ n) (at l i) (high b))

-- ---- the list cut and without the heavier numbers is the walk

-- where the walk stands after the first i numbers of a list
abbrev after : List ℕ → ℕ → ℕ
after l zero = 0
after l (suc i) = suc (at l i)

after-le : (l : List ℕ) (b i : ℕ) → ((k : ℕ) → k < i → at l k < b) → after l i ≤ b
after-le l b zero h = omega arith
after-le l b (suc i) h = h i (omega arith)

module _ (inputs limit w : ℕ) (l : List ℕ) (s : PrintedList inputs limit l) (h : w ≤ limit) where
  passed : (i j : ℕ) → j < i → i ≤ length l → at l j < after l i
  passed zero j k b = absurd (omega arith)
  passed (suc i) j k b = omega (arith, ascending-le l (length l) s.ascending j i (omega arith) b)

  -- between the first i numbers and the next one there is no number of the walk
  gap : (i b : ℕ) → i ≤ length l → b ≤ 2 ^ inputs → (i < length l → b ≤ at l i) → (t : ℕ) → after l i ≤ t → t < b → light w t ≡ false
  gap i b hi hb next t low high = go (light w t) refl
    where
      place : light w t ≡ true → (j : ℕ) × (j < length l) × (at l j ≡ t)
      place e = let o = ones-light w t e in s.complete t (omega arith) o.0 (omega (arith, o.1))

      nowhere : (j : ℕ) → j < length l → at l j ≡ t → Dec (j < i) → ⊥
      nowhere j b e (yes k) = omega (arith, passed i j k hi)
      nowhere j b e (no k) = omega (arith, next (omega arith), ascending-le l (length l) s.ascending i j (omega arith) b)

      go : (c : Bool) → light w t ≡ c → c ≡ false
      go false e = refl
      go true e = let p = place e in absurd (nowhere p.0 p.1 p.2 (dec_lt p.0 i))

  walk-gap : (i b : ℕ) → i ≤ length l → after l i ≤ b → b ≤ 2 ^ inputs → (i < length l → b ≤ at l i) → walk_to w b ≡ walk_to w (after l i)
  walk-gap i b hi low hb next =
      let e : b ≡ after l i + (b - after l i) = omega arith in
      ap (walk_to w) e ∙ walk-past w (after l i) (b - after l i) (λ k r. gap i b hi hb next (after l i + k) (omega arith) (omega arith))

  kept-walk : (i : ℕ) → i ≤ length l → kept w l i ≡ walk_to w (after l i)
  unfolding kept walk_to
  kept-walk zero b = refl
  kept-walk (suc i) b =
      ap (λ (k : List ℕ). cond (light w (at l i)) (k ++ (at l i ∷ [])) k)
      (kept-walk i (omega arith)
      ∙ sym (walk-gap i (at l i) (omega arith) (after-le l (at l i) i (λ k c. s.ascending k i c b)) (omega (arith, s.below i b)) (λ c. omega arith)))

  -- the walk for n inputs and the weight limit w
  pub walk-printed : (n : ℕ) → n ≤ inputs → kept w l (cut n l) ≡ walk n w
  unfolding cut walk
  walk-printed n hn =
      kept-walk c (first-le (length l) past)
      ∙ sym
      (walk-gap c (2 ^ n) (first-le (length l) past) (after-le l (2 ^ n) c (λ k b. leb-false (2 ^ n) (at l k) (first_below (length l) past k b)))
      (pow_mono hn) (λ b. leb-true (2 ^ n) (at l c) (first_passes (length l) past b)))
    where
      past : ℕ → Bool
      past i = leb (2 ^ n) (at l i)

      c : ℕ
      c = first (length l) past

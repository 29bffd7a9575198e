-- The walk ascends, so that a number's place is found by halving. Assumes nothing.
use Rattle.std.specs.Prelude.{◌≡◌, true, false, cond, List, [], ◌∷◌, ◌++◌, length}
use Rattle.std.proofs.Math.Path.{sym}
use Rattle.std.proofs.Common.{ap, ◌∙◌, arith, length-append}
use Rattle.std.proofs.Math.Bool.{Bool}
use Prim.Native.Nat.{ℕ, suc, ◌+◌, ◌≤◌, ◌<◌}
use Rattle.std.proofs.Math.Decide.{dec_lt, ℕ_discrete, le_ind}
use borrow.Author.Tests.{eq-eqb, ne_eqb, leb-true, leb-false, le-leb, lt-leb}
use Rattle.std.proofs.Math.Dec.{eqb, leb}
use Rattle.slices.specs.Places.{at, first}
use Rattle.slices.specs.Least.{first-is, first_below, first_passes}
use Rattle.candidates.specs.Light.{light}
use Rattle.walks.specs.Walk.{walk_to, Walked, walked-place, value_at}

-- the first `count` numbers of a list ascend
abbrev pub Ascending : List ℕ → ℕ → Type 0
Ascending l count = (i j : ℕ) → i < j → j < count → at l i < at l j

-- the walk does
longer : (w m : ℕ) → length (walk_to w m) ≤ length (walk_to w (suc m))
unfolding walk_to
longer w m = go (light w m)
  where
    go : (b : Bool) → length (walk_to w m) ≤ length (cond b (walk_to w m ++ (m ∷ [])) (walk_to w m))
    go true = omega (arith, length-append (walk_to w m) (m ∷ []))
    go false = omega arith

walk-mono : (w a b : ℕ) → a ≤ b → length (walk_to w a) ≤ length (walk_to w b)
walk-mono w a b h =
    le_ind (λ (m : ℕ). length (walk_to w a) ≤ length (walk_to w m)) (omega arith) (λ m k e. omega (arith, longer w m)) b h

pub walked-ascending : (n w : ℕ) (l : List ℕ) (count : ℕ) → Walked n w l count → Ascending l count
walked-ascending n w l count s i j h b = go (dec_lt (at l i) (at l j))
  where
    go : Dec (at l i < at l j) → at l i < at l j
    go (yes k) = k
    go (no k) =
        absurd (omega (arith, walk-mono w (at l j) (at l i) (omega arith), walked-place n w l count s i (omega arith), walked-place n w l count s j b))

module _ (l : List ℕ) (count : ℕ) (s : Ascending l count) where
  -- no later number is smaller
  pub ascending-le : (i j : ℕ) → i ≤ j → j < count → at l i ≤ at l j
  ascending-le i j k b = go (ℕ_discrete i j)
    where
      go : Dec (i ≡ j) → at l i ≤ at l j
      go (yes e) = rw e (omega arith)
      go (no f) = omega (arith, s i j (omega arith) b)

  -- up to a number below t all are, and from one that is not on none is
  pub all-below : (t i : ℕ) → i < count → at l i < t → (j : ℕ) → j < i + 1 → at l j < t
  all-below t i b h j k = omega (arith, ascending-le j i (omega arith) b)

  pub none_below : (t i : ℕ) → t ≤ at l i → (j : ℕ) → i ≤ j → j < count → t ≤ at l j
  none_below t i h j k b = omega (arith, ascending-le i j k b)

  -- the place of the first number that is not below t
  pub place_is : (t r : ℕ) → r ≤ count → ((j : ℕ) → j < r → at l j < t) → ((j : ℕ) → r ≤ j → j < count → t ≤ at l j)
      → r ≡ first count (λ i. leb t (at l i))
  place_is t r h low high =
      sym (first-is count (λ i. leb t (at l i)) r h (λ j b. lt-leb t (at l j) (low j b)) (λ b. le-leb t (at l r) (high r (omega arith) b)))

  -- a number that stands there stands at the place of the first that is not below it
  pub value_found : (values : List ℕ) (t r : ℕ) → r ≡ first count (λ i. leb t (at l i)) → r < count → at l r ≡ t
      → at values r ≡ value_at l values count t
  unfolding value_at
  value_found values t r e b d =
      sym
      (ap (at values)
      (first-is count (λ i. eqb (at l i) t) r (omega arith) (λ j k. ne_eqb (at l j) t (λ f. omega (arith, s j r k b)))
      (λ k. eq-eqb (at l r) t d)))

  -- one that does not stand there has the value at the end
  pub value-missing : (values : List ℕ) (t r : ℕ) → r ≡ first count (λ i. leb t (at l i)) → (r < count → at l r ≡ t → ⊥)
      → at values count ≡ value_at l values count t
  unfolding value_at
  value-missing values t r e f =
      sym
      (ap (at values)
      (first-is count (λ i. eqb (at l i) t) count (omega arith) (λ j k. ne_eqb (at l j) t (nowhere j k (dec_lt j r) (ℕ_discrete j r)))
      (λ k. absurd (omega arith))))
    where
      past : ℕ → Bool
      past i = leb t (at l i)

      nowhere : (j : ℕ) → j < count → Dec (j < r) → Dec (j ≡ r) → at l j ≡ t → ⊥
      nowhere j k (yes b) g d = omega (arith, leb-false t (at l j) (first_below count past j (omega arith)))
      nowhere j k (no b) (yes g) d = f (omega arith) (ap (at l) (sym g) ∙ d)
      nowhere j k (no b) (no g) d =
          omega (arith, leb-true t (at l (first count past)) (first_passes count past (omega arith)), s (first count past) j (omega arith) k)

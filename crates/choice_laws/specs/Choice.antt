-- The choice among the numbers below m that pass a test, under any strict total order: what it is, that there is at most one, and
-- that `best` makes it; the laws of `better` and `best` that a search cites; and what the choice says of R and of one-bits. Not here: the order
-- (`Order`), and that some number passes (crate matrix_laws, `Candidate`). Assumes nothing.
use Rattle.std.specs.Prelude.{◌≡◌, Bool, cond, ◌&&◌, ◌||◌, ◌⊎◌, eqb}
use Rattle.std.proofs.Math.Path.{refl}
use Rattle.std.proofs.Common.{sym, ap, ◌∙◌, inr, arith}
use Rattle.std.proofs.Math.Bool.{true, false, or-true, and-false}
use Rattle.std.proofs.lemmas.Bool.{false≢true}
use Rattle.std.proofs.Math.Logic.{inl, ⊎_elim}
use Prim.Native.Nat.{ℕ, zero, suc, ◌≤◌, ◌<◌}
use Rattle.std.proofs.Math.Decide.{ℕ_discrete}
use borrow.Author.Tests.{eq-eqb, ne_eqb, eqb-false}
use Rattle.std.specs.Int.Count.{ones}
use Rattle.sums.specs.Laws.{below_suc}
use Rattle.block.specs.Basis.{before, better, best}
use Rattle.choice_laws.specs.Order.{Strict, before-true}

-- b is the choice among the numbers below m: it passes, and stands before every other that passes
pub record Choice (order : ℕ → ℕ → Bool) (ok : ℕ → Bool) (m b : ℕ) : Type 0 where
  pub below : b < m
  pub passes : ok b ≡ true
  pub leads : (t : ℕ) → t < m → ok t ≡ true → (t ≡ b → ⊥) → order b t ≡ true

module _ (order : ℕ → ℕ → Bool) (ok : ℕ → Bool) where
  -- ---- the better of two

  -- a number that does not pass is not taken
  pub better-no : (b t : ℕ) → ok t ≡ false → better order ok b t ≡ b
  unfolding better
  better-no b t h = rw h

  -- the first that passes is taken
  pub better-none : (b t : ℕ) → ok t ≡ true → b ≡ 0 → better order ok b t ≡ t
  unfolding better
  better-none b t h e = rw (h, eq-eqb b 0 e)

  -- one that passes and stands before the best so far is taken
  pub better-yes : (b t : ℕ) → ok t ≡ true → order t b ≡ true → better order ok b t ≡ t
  unfolding better
  better-yes b t h e = rw (h, e, or-true)

  -- the best so far stays where the other does not stand before it
  pub better-keep : (b t : ℕ) → (b ≡ 0 → ⊥) → order t b ≡ false → better order ok b t ≡ b
  unfolding better
  better-keep b t n e = rw (ne_eqb b 0 n, e, and-false)

  -- ---- the search

  better-of : (b t : ℕ) (x : Bool) → (cond x t b ≡ t) ⊎ (cond x t b ≡ b)
  better-of b t true = inl refl
  better-of b t false = inr refl

  -- what is found lies below any bound of the search that is not 0
  pub best-lt : (m k : ℕ) → m ≤ k → 0 < k → best order ok m < k
  unfolding best better
  best-lt zero k h l = l
  best-lt (suc m) k h l =
      ⊎_elim (λ e. rw e (omega arith)) (λ e. rw e (best-lt m k (omega arith) l))
      (better-of (best order ok m) m (ok m && (eqb (best order ok m) 0 || order m (best order ok m))))

  -- and passes, where it is not 0
  pub best-passes : (m : ℕ) → (best order ok m ≡ 0 → ⊥) → ok (best order ok m) ≡ true
  unfolding best better
  best-passes zero n = absurd (n refl)
  best-passes (suc m) n =
      go (λ k. best-passes m k) (ok m) (eqb (best order ok m) 0 || order m (best order ok m)) refl n
    where
      go : ((best order ok m ≡ 0 → ⊥) → ok (best order ok m) ≡ true) → (x y : Bool) → ok m ≡ x
          → (cond (x && y) m (best order ok m) ≡ 0 → ⊥) → ok (cond (x && y) m (best order ok m)) ≡ true
      go ih true true e k = e
      go ih true false e k = ih k
      go ih false y e k = ih k

  -- ---- the search makes the choice

  -- no number below m passes
  abbrev pub NonePass : ℕ → Type 0
  NonePass m = (t : ℕ) → t < m → ok t ≡ false

  -- the choice among one number more
  extend : (m b : ℕ) → b < suc m → ok b ≡ true → ((t : ℕ) → t < m → ok t ≡ true → (t ≡ b → ⊥) → order b t ≡ true)
      → (ok m ≡ true → (m ≡ b → ⊥) → order b m ≡ true) → Choice order ok (suc m) b
  extend m b l p f g =
      record { below = l; passes = p; leads = below_suc (λ t. ok t ≡ true → (t ≡ b → ⊥) → order b t ≡ true) m f g }

  module _ (s : Strict order) where
    -- there is at most one choice
    pub choice-unique : (m a b : ℕ) → Choice order ok m a → Choice order ok m b → a ≡ b
    choice-unique m a b p q = go (ℕ_discrete a b)
      where
        go : Dec (a ≡ b) → a ≡ b
        go (yes e) = e
        go (no n) =
            absurd
            (false≢true
            (sym (s.asymmetric a b (p.leads b q.below q.passes (λ e. n (sym e)))) ∙ q.leads a p.below p.passes n))

    -- what the search finds is the choice, or 0 where no number passes
    pub best-either : ok 0 ≡ false → (m : ℕ) → (NonePass m × (best order ok m ≡ 0)) ⊎ Choice order ok m (best order ok m)
    unfolding best
    best-either z zero = inl ((λ t h. absurd (omega arith)), refl)
    best-either z (suc m) = go (best-either z m) (ok m) refl
      where
        b : ℕ
        b = best order ok m

        go : (NonePass m × (b ≡ 0)) ⊎ Choice order ok m b → (x : Bool) → ok m ≡ x
            → (NonePass (suc m) × (better order ok b m ≡ 0)) ⊎ Choice order ok (suc m) (better order ok b m)
        go (inl h) false e = inl (below_suc (λ t. ok t ≡ false) m h.0 e, better-no b m e ∙ h.1)
        go (inl h) true e =
            inr
            (rw (better-none b m e h.1)
            (extend m m (omega arith) e (λ t l q n. absurd (false≢true (sym (h.0 t l) ∙ q))) (λ q n. absurd (n refl))))
        go (inr c) false e =
            inr
            (rw (better-no b m e)
            (extend m b (omega (arith, c.below)) c.passes c.leads (λ q n. absurd (false≢true (sym e ∙ q)))))
        go (inr c) true e = inr (pass (order m b) refl)
          where
            leads : order m b ≡ true → (t : ℕ) → t < m → ok t ≡ true → Dec (t ≡ b) → order m t ≡ true
            leads a t l q (yes d) = rw d a
            leads a t l q (no n) = s.transitive m b t a (c.leads t l q n)

            pass : (y : Bool) → order m b ≡ y → Choice order ok (suc m) (better order ok b m)
            pass true a =
                rw (better-yes b m e a)
                (extend m m (omega arith) e (λ t l q n. leads a t l q (ℕ_discrete t b)) (λ q n. absurd (n refl)))
            pass false a =
                rw (better-keep b m (λ d. false≢true (sym z ∙ (ap ok (sym d) ∙ c.passes))) a)
                (extend m b (omega (arith, c.below)) c.passes c.leads (λ q n. s.total m b n a))

    -- where some number passes, what the search finds is the choice
    pub best-choice : ok 0 ≡ false → (m t : ℕ) → t < m → ok t ≡ true → Choice order ok m (best order ok m)
    best-choice z m t l h = ⊎_elim (λ n. absurd (false≢true (sym (n.0 t l) ∙ h))) (λ c. c) (best-either z m)

-- ---- what the search depends on

-- the better of two depends on their order alone, and on that only where both may be taken
better-agree : (order early : ℕ → ℕ → Bool) (ok : ℕ → Bool) (b t : ℕ)
    → (ok t ≡ true → (b ≡ 0 → ⊥) → order t b ≡ early t b) → better order ok b t ≡ better early ok b t
unfolding better
better-agree order early ok b t h = go (ok t) (eqb b 0) refl refl
  where
    go : (x y : Bool) → ok t ≡ x → eqb b 0 ≡ y → cond (x && (y || order t b)) t b ≡ cond (x && (y || early t b)) t b
    go true true e d = refl
    go true false e d = ap (λ (z : Bool). cond z t b) (h e (eqb-false b 0 d))
    go false y e d = refl

-- the test below m
pub best-cong : (order : ℕ → ℕ → Bool) (p q : ℕ → Bool) (m : ℕ) → ((t : ℕ) → t < m → p t ≡ q t) → best order p m ≡ best order q m
unfolding best better
best-cong order p q zero h = refl
best-cong order p q (suc m) h = rw (best-cong order p q m (λ t l. h t (omega arith)), h m (omega arith))

-- the order among the numbers below m that pass: it is asked of no others
pub best-agree : (order early : ℕ → ℕ → Bool) (ok : ℕ → Bool) (m : ℕ)
    → ((a b : ℕ) → a < m → b < m → ok a ≡ true → ok b ≡ true → order a b ≡ early a b) → best order ok m ≡ best early ok m
unfolding best
best-agree order early ok zero h = refl
best-agree order early ok (suc m) h =
    rw (best-agree order early ok m (λ a b l k p q. h a b (omega arith) (omega arith) p q))
    (better-agree order early ok (best early ok m) m
    (λ p n. h m (best early ok m) (omega arith) (best-lt early ok m (suc m) (omega arith) (omega arith)) p (best-passes early ok m n)))

-- ---- the choice by R, then by one-bits, then by the number

module _ (r : ℕ → ℕ) (ok : ℕ → Bool) (m b : ℕ) (c : Choice (before r) ok m b) where
  -- it has the greatest R of those that pass
  pub choice-greatest : (t : ℕ) → t < m → ok t ≡ true → r t ≤ r b
  choice-greatest t l h = go (ℕ_discrete t b)
    where
      go : Dec (t ≡ b) → r t ≤ r b
      go (yes e) = omega (arith, ap r e)
      go (no n) = (before-true r b t (c.leads t l h n)).value

  -- the fewest one-bits of those with that R
  pub choice-fewest : (t : ℕ) → t < m → ok t ≡ true → r t ≡ r b → ones b ≤ ones t
  choice-fewest t l h e = go (ℕ_discrete t b)
    where
      go : Dec (t ≡ b) → ones b ≤ ones t
      go (yes d) = omega (arith, ap ones d)
      go (no n) = (before-true r b t (c.leads t l h n)).weight (sym e)

  -- and is the smallest number of those with as many
  pub choice-smallest : (t : ℕ) → t < m → ok t ≡ true → r t ≡ r b → ones t ≡ ones b → b ≤ t
  choice-smallest t l h e o = go (ℕ_discrete t b)
    where
      go : Dec (t ≡ b) → b ≤ t
      go (yes d) = omega arith
      go (no n) = omega (arith, (before-true r b t (c.leads t l h n)).number (sym e) (sym o))

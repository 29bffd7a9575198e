-- Demand 2, what the order among equals costs (02, Ticket 1): nothing. Under any two strict orders that put a greater R first each step
-- takes a number of the same R, so the sum of R over the chosen numbers is the same, and so is the second measure. The order of 01, which
-- put the smaller number first at equal R, is one of them, and the order of Ticket 1 another. For any block f with n inputs, and any
-- weight limit w from 1 on. Assumes nothing.
use Rattle.std.specs.Prelude.{◌≡◌, Bool, ℕ, ◌≤◌, ◌<◌, ltb}
use Rattle.std.proofs.Common.{sym, ◌∙◌, arith, lt-ltb}
use Rattle.slices.specs.Places.{at}
use Rattle.sums.specs.Sums.{sum}
use Rattle.sums.specs.Laws.{sum-cong}
use Rattle.block.specs.Measure.{shift, measure}
use Rattle.block.specs.Basis.{before, basis_of, smaller, smaller_of}
use Rattle.choice_laws.specs.Order.{Strict, GreaterFirst, by_key, more, ltb-strict, more-strict, key-strict, key-first, before-strict, before-greater}
use Rattle.matrix_laws.specs.Smaller.{measure-smaller}
use Rattle.matrix_laws.specs.Ordered.{TakenBy, taken-some, taken-independent, taken-values, basis-ordered}

module _ (f : ℕ → ℕ) (n w : ℕ) (order early : ℕ → ℕ → Bool) (s : Strict order) (s' : Strict early) (h : GreaterFirst order (shift f n))
    (h' : GreaterFirst early (shift f n)) (c d : ℕ → ℕ) (g : TakenBy order n w c n) (g' : TakenBy early n w d n) where
  -- each step takes a number of the same R
  pub orders-values : (k : ℕ) → k < n → shift f n (c k) ≡ shift f n (d k)
  orders-values = taken-values order s (shift f n) h n w c g early s' h' d g'

  -- so the sum of R over the numbers taken is the same
  pub orders-sum : sum (λ i. shift f n (c i)) n ≡ sum (λ i. shift f n (d i)) n
  orders-sum = sum-cong (λ i. shift f n (c i)) (λ i. shift f n (d i)) n orders-values

  -- and so is the second measure
  pub orders-measure : measure (smaller f c n) n ≡ measure (smaller f d n) n
  orders-measure =
      measure-smaller f c n (taken-independent order n w c n g)
      ∙ orders-sum
      ∙ sym (measure-smaller f d n (taken-independent early n w d n g'))

-- ---- the two orders

-- that of 01: greater R, then the smaller number
abbrev pub by_number : (ℕ → ℕ) → ℕ → ℕ → Bool
by_number r = by_key more r ltb

pub by-number-strict : (r : ℕ → ℕ) → Strict (by_number r)
by-number-strict r = key-strict more more-strict r ltb ltb-strict

pub by-number-greater : (r : ℕ → ℕ) → GreaterFirst (by_number r) r
by-number-greater r a b h = key-first more more-strict r ltb a b (lt-ltb (r b) (r a) h)

module _ (f : ℕ → ℕ) (n w : ℕ) (hw : 1 ≤ w) where
  -- the basis has the second measure of the numbers taken under any such order ..
  pub second-measure-any : (order : ℕ → ℕ → Bool) → Strict order → GreaterFirst order (shift f n) → (c : ℕ → ℕ) → TakenBy order n w c n
      → measure (smaller_of f n w) n ≡ measure (smaller f c n) n
  unfolding smaller_of
  second-measure-any order s h c g =
      orders-measure f n w (before (shift f n)) order (before-strict (shift f n)) s (before-greater (shift f n)) h (at (basis_of f n w)) c
      (basis-ordered f n w hw) g

  -- .. and so of those that 01 took: there are such numbers, and they have the same second measure
  pub second-measure-kept : (c : ℕ → ℕ) × (TakenBy (by_number (shift f n)) n w c n) × (measure (smaller_of f n w) n ≡ measure (smaller f c n) n)
  second-measure-kept =
      let p = taken-some (by_number (shift f n)) n w (by-number-strict (shift f n)) hw n (omega arith) in
      (p.0, p.1, second-measure-any (by_number (shift f n)) (by-number-strict (shift f n)) (by-number-greater (shift f n)) p.0 p.1)

-- The first reason that holds (02, Ticket 7), of numbers that were taken one by one under any order: the reason that is found is that one, and no
-- other is. So each is found exactly where it is the first that holds, and always one of the four does. Assumes nothing.
use Rattle.std.specs.Prelude.{◌≡◌, Bool, true, false, cond, ltb}
use Rattle.std.proofs.Common.{sym, ◌∙◌}
use Rattle.std.proofs.Math.Path.{ap}
use Rattle.std.proofs.lemmas.Bool.{false≢true}
use Prim.Native.Nat.{ℕ, suc, ◌-◌, ◌^◌, ◌≤◌, ◌<◌}
use Rattle.std.proofs.Math.Decide.{ℕ_discrete, dec_lt}
use native.Mathlib.Omega.{arith}
use borrow.Author.Tests.{eq-eqb, ne_eqb, lt-ltb, le-ltb, eqb-true, eqb-false}
use Rattle.std.specs.Int.Count.{ones}
use Rattle.std.proofs.Math.Dec.{eqb}
use Rattle.std.proofs.Math.Pow.{pow-lt}
use Rattle.bits.specs.Bit.{bit-pow-same}
use Rattle.bits.specs.Ones.{ones-some}
use Rattle.slices.specs.Places.{at}
use Rattle.slices.specs.Least.{first-is, first_below, first_passes}
use Rattle.block.specs.Basis.{span, columns, apply, inverse}
use Rattle.block.specs.Reasons.{XorOf, Holds, FirstToHold, place_of, set_of, reason}
use Rattle.block.specs.declared.Reason.{Reason}
use Rattle.block.specs.declared.Reason.TheVariants.{Zero, Over, Taken, Xor}
use Rattle.choice_laws.specs.Order.{Strict, strict-self}
use Rattle.matrix_laws.specs.Linear.{columns-unit, apply-lt}
use Rattle.matrix_laws.specs.Reached.{Independent}
use Rattle.matrix_laws.specs.Inverse.{sigma-columns, columns-sigma}
use Rattle.matrix_laws.specs.Ordered.{TakenBy, taken-independent, candidate-when}
use Rattle.reason_laws.specs.Sets.{set-once, set-inverse, place_is, set-fresh}

-- step j + 1 took number j
one_less : (j : ℕ) → suc j - 1 ≡ j
one_less j = omega arith

module _ (order : ℕ → ℕ → Bool) (n w : ℕ) (c : ℕ → ℕ) (g : TakenBy order n w c n) where
  all : Independent c n n
  all = taken-independent order n w c n g

  -- who is no XOR of those before step k + 1 stands behind the number of that step; what rests on it cites this
  step-first : (k t : ℕ) → k < n → t < 2 ^ n → (t ≡ 0 → ⊥) → ones t ≤ w → span c k t ≡ false → (t ≡ c k → ⊥) → order (c k) t ≡ true
  step-first k t l h d u e m =
      let some : 0 < t = omega arith in
      (g k l).leads t h (candidate-when w c k t (ones-some t some) u e) m

  -- any other number within the weight limit that is no XOR of those before step k + 1 stands behind the number of that step
  step-leads : (k t : ℕ) → k < n → t < 2 ^ n → (t ≡ 0 → ⊥) → ones t ≤ w → span c k t ≡ false → (t ≡ c k → ⊥) → order (c k) t ≡ true
  step-leads = step-first

  -- a number that is not 0, within the weight limit and not taken is the XOR of the set that is found, and each number of it stands before it
  pub untaken-xor : (t : ℕ) → t < 2 ^ n → (t ≡ 0 → ⊥) → ones t ≤ w → ((j : ℕ) → j < n → c j ≡ t → ⊥) → XorOf order n c t (set_of n c t)
  untaken-xor t h d u m =
      rw (set-inverse c n all t h)
      (record {
        below = apply-lt (at (inverse c n)) n t;
        gives = columns-sigma c n all t h;
        before = λ j l b. step-first j t l h d u (set-fresh c n all j t l h b) (λ e. m j l (sym e));
      })

  -- no other set of taken numbers has that XOR
  pub xor-once : (t y z : ℕ) → y < 2 ^ n → columns c n y ≡ t → XorOf order n c t z → y ≡ z
  xor-once t y z hy e q = set-once c n all t y z hy q.below e q.gives

  -- a number that is the XOR of taken numbers which stand before it is not taken itself
  pub xor-untaken : Strict order → (t z : ℕ) → XorOf order n c t z → (step : ℕ) → Holds order n w c t (Taken step) → ⊥
  xor-untaken s t z q step held =
      absurd
      (false≢true
      (sym (strict-self order s t)
      ∙ ap (λ (x : ℕ). order x t) (sym held.2)
      ∙ q.before (step - 1) (omega (arith, held.0, held.1)) (rw (← own) (bit-pow-same (step - 1)))))
    where
      own : 2 ^ (step - 1) ≡ z
      own =
          let l : step - 1 < n = omega (arith, held.0, held.1) in
          xor-once t (2 ^ (step - 1)) z (pow-lt l) (columns-unit c n (step - 1) l ∙ held.2) q

  -- the reason that is found is the first that holds
  pub reason-first : (t : ℕ) → t < 2 ^ n → FirstToHold order n w c t (reason n w c t)
  unfolding reason
  reason-first t h = go (ℕ_discrete t 0) (dec_lt w (ones t)) (dec_lt (place_of n c t) n)
    where
      go : Dec (t ≡ 0) → Dec (w < ones t) → Dec (place_of n c t < n)
          → FirstToHold order n w c t
          (cond (eqb t 0) Zero (cond (ltb w (ones t)) Over
          (cond (ltb (place_of n c t) n) (Taken (suc (place_of n c t))) (Xor (set_of n c t)))))
      go (yes a) b d = rw (eq-eqb t 0 a) a
      go (no a) (yes b) d = rw (ne_eqb t 0 a, lt-ltb w (ones t) b) (a, b)
      go (no a) (no b) (yes d) =
          rw (ne_eqb t 0 a, le-ltb w (ones t) (omega arith), lt-ltb (place_of n c t) n d)
          (a, b, (omega arith, omega arith, ap c (one_less (place_of n c t)) ∙ eqb-true (c (place_of n c t)) t (first_passes n (λ j. eqb (c j) t) d)))
      go (no a) (no b) (no d) =
          rw (ne_eqb t 0 a, le-ltb w (ones t) (omega arith), le-ltb (place_of n c t) n (omega arith))
          (a, b, (λ step held. un (step - 1) (omega (arith, held.0, held.1)) held.2), untaken-xor t h a (omega arith) un)
        where
          un : (j : ℕ) → j < n → c j ≡ t → ⊥
          un j l = eqb-false (c j) t (first_below n (λ j. eqb (c j) t) j (omega arith))

  -- and no other is: what it names is settled too, the step and the set
  pub reason-only : (t : ℕ) → t < 2 ^ n → (p : Reason) → FirstToHold order n w c t p → reason n w c t ≡ p
  unfolding reason
  reason-only t h Zero a = rw (eq-eqb t 0 a)
  reason-only t h Over a = rw (ne_eqb t 0 a.0, lt-ltb w (ones t) a.1)
  reason-only t h (Taken step) a =
      let l : step - 1 < n = omega (arith, a.2.0, a.2.1) in
      let e : suc (step - 1) ≡ step = omega (arith, a.2.0) in
      rw (ne_eqb t 0 a.0, le-ltb w (ones t) (omega (arith, a.1)), place_is c n all (step - 1) t l a.2.2, lt-ltb (step - 1) n l)
      (ap Taken e)
  reason-only t h (Xor z) a =
      let e : place_of n c t ≡ n =
      first-is n (λ i. eqb (c i) t) n (omega arith)
      (λ i l. ne_eqb (c i) t (λ d. a.2 (suc i) (omega arith, omega arith, ap c (one_less i) ∙ d)))
      (λ l. absurd (omega arith))
      in
      rw (ne_eqb t 0 a.0, le-ltb w (ones t) (omega (arith, a.1)), e, le-ltb n n (omega arith))
      (ap Xor (set-inverse c n all t h ∙ ap (apply (at (inverse c n)) n) (sym a.3.gives) ∙ sigma-columns c n all z a.3.below))

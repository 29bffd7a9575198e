-- Numbers taken one by one under any order, each the choice among the candidates that those before it leave: there are such numbers, they
-- are independent, and T's columns are taken so. Where the order puts a greater R first, R never rises from step to step, and which R
-- each step takes does not hang on the order among equals. Not here: the order itself (crate choice_laws, `Order`). Assumes nothing.
use Rattle.std.specs.Prelude.{◌≡◌, refl, Bool, true, false, cond, ℕ, zero, suc, ◌^◌, ◌≤◌, ◌<◌, ltb}
use Rattle.std.proofs.Common.{sym, ap, ◌∙◌, arith, lt-ltb, le-ltb, le-leb}
use Rattle.std.proofs.lemmas.Bool.{false≢true}
use Rattle.std.proofs.Math.Decide.{ℕ_discrete, dec_lt}
use Rattle.std.specs.Int.Count.{ones}
use Rattle.std.proofs.Math.Pow.{pow-lt}
use Rattle.slices.specs.Places.{at}
use Rattle.sums.specs.Laws.{below_suc}
use Rattle.block.specs.Measure.{shift}
use Rattle.block.specs.Basis.{span, candidate, before, best, basis_of}
use Rattle.choice_laws.specs.Order.{Strict, GreaterFirst}
use Rattle.choice_laws.specs.Choice.{Choice, best-choice}
use Rattle.choice_laws.specs.Chosen.{pick, basis-at, candidate-cong, candidate-ones}
use Rattle.matrix_laws.specs.Reached.{Independent, independent-fewer}
use Rattle.matrix_laws.specs.Candidate.{candidate-unit, candidate-zero, candidate-fresh, pick-choice}
use Rattle.matrix_laws.specs.Dimension.{span_more, within-few}

-- the first k of the numbers c are taken under the order: each is the choice among the candidates that those before it leave
abbrev pub TakenBy : (ℕ → ℕ → Bool) → ℕ → ℕ → (ℕ → ℕ) → ℕ → Type 0
TakenBy order n w c k = (j : ℕ) → j < k → Choice order (candidate w c j) (2 ^ n) (c j)

-- a number with 1 to w one-bits is a candidate unless it is an XOR of some of those before
pub candidate-when : (w : ℕ) (c : ℕ → ℕ) (k t : ℕ) → 1 ≤ ones t → ones t ≤ w → span c k t ≡ false → candidate w c k t ≡ true
unfolding candidate
candidate-when w c k t a b e = rw (le-leb 1 (ones t) a, le-leb (ones t) w b, e)

-- ---- under any order

module _ (order : ℕ → ℕ → Bool) (n w : ℕ) where
  -- it is a matter of the k numbers alone
  choice-cong : (c d : ℕ → ℕ) (j b : ℕ) → ((i : ℕ) → i < j → c i ≡ d i) → Choice order (candidate w c j) (2 ^ n) b
      → Choice order (candidate w d j) (2 ^ n) b
  choice-cong c d j b h q =
      record {
        below = q.below;
        passes = sym (candidate-cong w c d j h b) ∙ q.passes;
        leads = λ t l p m. q.leads t l (candidate-cong w c d j h t ∙ p) m;
      }

  taken-cong : (c d : ℕ → ℕ) (k : ℕ) → ((j : ℕ) → j < k → c j ≡ d j) → TakenBy order n w c k → TakenBy order n w d k
  taken-cong c d k h g j l = rw (← h j l) (choice-cong c d j (c j) (λ i u. h i (omega arith)) (g j l))

  -- they are independent
  pub taken-independent : (c : ℕ → ℕ) (k : ℕ) → TakenBy order n w c k → Independent c n k
  taken-independent c k g = record { below = λ j l. (g j l).below; fresh = λ j l. candidate-fresh w c j (c j) (g j l).passes }

  -- under a strict order there are such numbers, for every number of steps up to n
  pub taken-some : Strict order → 1 ≤ w → (k : ℕ) → k ≤ n → (c : ℕ → ℕ) × TakenBy order n w c k
  taken-some s hw zero h = (λ j. 0, λ j l. absurd (omega arith))
  taken-some s hw (suc k) h = go (taken-some s hw k (omega arith))
    where
      go : (c : ℕ → ℕ) × TakenBy order n w c k → (c : ℕ → ℕ) × TakenBy order n w c (suc k)
      go p = (d, below_suc (λ j. Choice order (candidate w d j) (2 ^ n) (d j)) k (taken-cong c d k old p.1) new)
        where
          c : ℕ → ℕ
          c = p.0

          next : ℕ
          next = best order (candidate w c k) (2 ^ n)

          d : ℕ → ℕ
          d j = cond (ltb j k) (c j) next

          old : (j : ℕ) → j < k → c j ≡ d j
          old j l = rw (lt-ltb j k l)

          unit : (i : ℕ) × (i < n) × (candidate w c k (2 ^ i) ≡ true)
          unit = candidate-unit w n c k hw (omega arith) (taken-independent c k p.1)

          found : Choice order (candidate w c k) (2 ^ n) next
          found = best-choice order (candidate w c k) s (candidate-zero w c k) (2 ^ n) (2 ^ unit.0) (pow-lt unit.1) unit.2

          new : Choice order (candidate w d k) (2 ^ n) (d k)
          new = rw (le-ltb k k (omega arith)) (choice-cong c d k next old found)

-- the columns of T are taken under the order of candidates
pub basis-ordered : (f : ℕ → ℕ) (n w : ℕ) → 1 ≤ w → TakenBy (before (shift f n)) n w (at (basis_of f n w)) n
basis-ordered f n w hw =
    taken-cong (before (shift f n)) n w (pick (shift f n) n w) (at (basis_of f n w)) n (λ j l. sym (basis-at f n w j l))
    (pick-choice (shift f n) n w hw)

-- ---- under an order that puts a greater R first

module _ (order : ℕ → ℕ → Bool) (s : Strict order) (r : ℕ → ℕ) (h : GreaterFirst order r) (n w : ℕ) (c : ℕ → ℕ) (g : TakenBy order n w c n) where
  -- each number has the greatest R of the candidates that those before it leave
  taken-greatest : (k t : ℕ) → k < n → t < 2 ^ n → candidate w c k t ≡ true → r t ≤ r (c k)
  taken-greatest k t l b e = go (ℕ_discrete t (c k)) (dec_lt (r (c k)) (r t))
    where
      go : Dec (t ≡ c k) → Dec (r (c k) < r t) → r t ≤ r (c k)
      go (yes d) u = omega (arith, ap r d)
      go (no d) (yes u) = absurd (false≢true (sym (s.asymmetric (c k) t ((g k l).leads t b e d)) ∙ h t (c k) u))
      go (no d) (no u) = omega arith

  -- a number of a later step was a candidate at every step before it
  earlier-candidate : (j k : ℕ) → j ≤ k → k < n → candidate w c j (c k) ≡ true
  earlier-candidate j k l b =
      let m = candidate-ones w c k (c k) (g k b).passes in
      candidate-when w c j (c k) m.0 m.1 (go (span c j (c k)) refl)
    where
      go : (x : Bool) → span c j (c k) ≡ x → span c j (c k) ≡ false
      go true e = absurd (false≢true (sym (candidate-fresh w c k (c k) (g k b).passes) ∙ span_more c j k (c k) l e))
      go false e = e

  -- so R never rises from step to step
  taken-falls : (j k : ℕ) → j ≤ k → k < n → r (c k) ≤ r (c j)
  taken-falls j k l b = taken-greatest j (c k) (omega arith) (g k b).below (earlier-candidate j k l b)

-- of the numbers taken under two such orders, none of the second has a greater R than the one of the same step of the first: were it so, the
-- numbers of the second up to that step would be XORs of the fewer before it of the first
taken-le : (order : ℕ → ℕ → Bool) → Strict order → (r : ℕ → ℕ) → GreaterFirst order r → (n w : ℕ) (c : ℕ → ℕ) → TakenBy order n w c n
    → (early : ℕ → ℕ → Bool) → Strict early → GreaterFirst early r → (d : ℕ → ℕ) → TakenBy early n w d n
    → (k : ℕ) → k < n → r (d k) ≤ r (c k)
taken-le order s r h n w c g early s' h' d g' k l = go (dec_lt (r (c k)) (r (d k)))
  where
    inside : r (c k) < r (d k) → (j : ℕ) → j < suc k → (x : Bool) → span c k (d j) ≡ x → span c k (d j) ≡ true
    inside u j b true e = e
    inside u j b false e =
        let m = candidate-ones w d j (d j) (g' j (omega arith)).passes in
        absurd
        (omega (
          arith,
          taken-greatest order s r h n w c g k (d j) l (g' j (omega arith)).below (candidate-when w c k (d j) m.0 m.1 e),
          taken-falls early s' r h' n w d g' j k (omega arith) l,
        ))

    go : Dec (r (c k) < r (d k)) → r (d k) ≤ r (c k)
    go (yes u) =
        absurd
        (omega (
          arith,
          within-few c n k (omega arith) (independent-fewer c n k n (omega arith) (taken-independent order n w c n g)) d (suc k)
              (independent-fewer d n (suc k) n (omega arith) (taken-independent early n w d n g'))
              (λ j b. inside u j b (span c k (d j)) refl),
        ))
    go (no u) = omega arith

-- so each step takes the same R under any two such orders
pub taken-values : (order : ℕ → ℕ → Bool) → Strict order → (r : ℕ → ℕ) → GreaterFirst order r → (n w : ℕ) (c : ℕ → ℕ)
    → TakenBy order n w c n → (early : ℕ → ℕ → Bool) → Strict early → GreaterFirst early r → (d : ℕ → ℕ) → TakenBy early n w d n
    → (k : ℕ) → k < n → r (c k) ≡ r (d k)
taken-values order s r h n w c g early s' h' d g' k l =
    omega (
      arith,
      taken-le order s r h n w c g early s' h' d g' k l,
      taken-le early s' r h' n w d g' order s h c g k l,
    )

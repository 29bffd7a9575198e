-- Each step has a candidate: after k < n independent numbers some power of two is left, for every weight limit from 1 on. So each
-- chosen number is the choice, and the n chosen numbers are independent. Not here: the inverse of their matrix (`Inverse`).
-- Assumes nothing.
use Rattle.std.specs.Prelude.{◌≡◌, refl, Bool, true, false, not, ◌&&◌, ℕ, zero, suc, ◌^◌, ◌≤◌, ◌<◌, leb}
use Rattle.std.proofs.Common.{sym, ◌∙◌, subst, mod-eq_of_lt, arith, le-ltb, le-leb, leb-true, leb-false}
use Rattle.std.proofs.lemmas.Bool.{false≢true, not-true}
use Rattle.std.proofs.Math.Decide.{dec_lt}
use Rattle.std.specs.Int.Count.{ones, ones_in}
use Rattle.std.proofs.Math.Pow.{pow-lt}
use Rattle.bits.specs.Parity.{ones-pow}
use Rattle.sums.specs.Laws.{below_suc}
use Rattle.slices.specs.Places.{at, first}
use Rattle.slices.specs.Least.{first_below, first_passes}
use Rattle.block.specs.Measure.{shift}
use Rattle.block.specs.Basis.{span, candidate, before, basis_of}
use Rattle.block.specs.Rows.{reached}
use Rattle.choice_laws.specs.Order.{before-strict}
use Rattle.choice_laws.specs.Choice.{Choice, best-choice}
use Rattle.choice_laws.specs.Chosen.{pick, pick-best, pick-lt, basis-at, candidate-ones}
use Rattle.matrix_laws.specs.Linear.{columns-lt, columns-units, linear-columns}
use Rattle.matrix_laws.specs.Reached.{Independent, Coordinates, independent-cong, reached-linear, returned, reaches, reached-span}

-- some power of two has coordinates from 2^k on: if none had, no number would have
unit_left : (n : ℕ) (c : ℕ → ℕ) (k : ℕ) → k < n → Independent c n k → (i : ℕ) × (i < n) × (2 ^ k ≤ reached n c k (2 ^ i))
unit_left n c k h ind = go (dec_lt i n)
  where
    ok : ℕ → Bool
    ok i = leb (2 ^ k) (reached n c k (2 ^ i))

    i : ℕ
    i = first n ok

    g : Coordinates n c k
    g = reaches n c k (omega arith) ind

    all-low : ¬ (i < n) → (x : ℕ) → x < 2 ^ n → reached n c k x < 2 ^ k
    all-low m x l =
        subst (λ (y : ℕ). reached n c k y < 2 ^ k) (columns-units n x ∙ mod-eq_of_lt l)
        (rw (linear-columns (reached n c k) (reached-linear n c k) (λ j. 2 ^ j) n x)
        (columns-lt (λ j. reached n c k (2 ^ j)) k n x
        (λ j u. leb-false (2 ^ k) (reached n c k (2 ^ j)) (first_below n ok j (omega arith)))))

    go : Dec (i < n) → (i : ℕ) × (i < n) × (2 ^ k ≤ reached n c k (2 ^ i))
    go (yes l) = (i, l, leb-true (2 ^ k) (reached n c k (2 ^ i)) (first_passes n ok l))
    go (no m) =
        absurd (omega (arith, g.forth (2 ^ k), all-low m (returned n c k (2 ^ k)) (g.gives (2 ^ k) (pow-lt h))))

-- some power of two is a candidate
pub candidate-unit : (w n : ℕ) (c : ℕ → ℕ) (k : ℕ) → 1 ≤ w → k < n → Independent c n k
    → (i : ℕ) × (i < n) × (candidate w c k (2 ^ i) ≡ true)
unfolding candidate
candidate-unit w n c k hw h ind =
    let u = unit_left n c k h ind in (
      u.0,
      u.1,
      rw (
        ones-pow u.0,
        le-leb 1 w hw,
        reached-span n c k (omega arith) ind (2 ^ u.0) (pow-lt u.1),
        le-ltb (reached n c k (2 ^ u.0)) (2 ^ k) u.2,
      ),
    )

-- 0 is none
pub candidate-zero : (w : ℕ) (c : ℕ → ℕ) (k : ℕ) → candidate w c k 0 ≡ false
unfolding candidate ones ones_in
candidate-zero w c k = refl

-- a candidate is no XOR of some of the numbers before it
pub candidate-fresh : (w : ℕ) (c : ℕ → ℕ) (k t : ℕ) → candidate w c k t ≡ true → span c k t ≡ false
unfolding candidate
candidate-fresh w c k t h = go (leb 1 (ones t)) (leb (ones t) w) (span c k t) h
  where
    go : (a b s : Bool) → a && (b && not s) ≡ true → s ≡ false
    go true true s e = not-true s e
    go true false s e = absurd (false≢true e)
    go false b s e = absurd (false≢true e)

-- ---- the chosen numbers, for any R
module _ (r : ℕ → ℕ) (n w : ℕ) (hw : 1 ≤ w) where
  step-choice : (k : ℕ) → k < n → Independent (pick r n w) n k
      → Choice (before r) (candidate w (pick r n w) k) (2 ^ n) (pick r n w k)
  step-choice k h ind =
      let u = candidate-unit w n (pick r n w) k hw h ind in
      rw (pick-best r n w k)
      (best-choice (before r) (candidate w (pick r n w) k) (before-strict r) (candidate-zero w (pick r n w) k) (2 ^ n)
      (2 ^ u.0) (pow-lt u.1) u.2)

  -- they are independent
  pub pick-independent : (k : ℕ) → k ≤ n → Independent (pick r n w) n k
  pick-independent zero h = record { below = λ j l. absurd (omega arith); fresh = λ j l. absurd (omega arith) }
  pick-independent (suc k) h =
      let ind : Independent (pick r n w) n k = pick-independent k (omega arith) in
      record {
        below = λ j l. pick-lt r n w j;
        fresh =
            below_suc (λ j. span (pick r n w) j (pick r n w j) ≡ false) k ind.fresh
            (candidate-fresh w (pick r n w) k (pick r n w k) (step-choice k (omega arith) ind).passes);
      }

  -- each is the choice among the candidates that those before it leave
  pub pick-choice : (k : ℕ) → k < n → Choice (before r) (candidate w (pick r n w) k) (2 ^ n) (pick r n w k)
  pick-choice k h = step-choice k h (pick-independent k (omega arith))

  -- and has 1 to w one-bits
  pub pick-ones : (k : ℕ) → k < n → (1 ≤ ones (pick r n w k)) × (ones (pick r n w k) ≤ w)
  pick-ones k h = candidate-ones w (pick r n w) k (pick r n w k) (pick-choice k h).passes

-- so are the columns of T
pub basis-independent : (f : ℕ → ℕ) (n w : ℕ) → 1 ≤ w → Independent (at (basis_of f n w)) n n
basis-independent f n w h =
    independent-cong (pick (shift f n) n w) (at (basis_of f n w)) n n
    (λ j l. sym (basis-at f n w j l))
    (pick-independent (shift f n) n w h n (omega arith))

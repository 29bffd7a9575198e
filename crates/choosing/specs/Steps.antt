-- A step of the choice, as the code has it: the candidates by the matrix reached, and the number chosen among them. Not here: the matrix
-- after the step (matrix_steps), and why they are those of 01 (choice and matrix). Assumes nothing.
use Rattle.std.specs.Prelude.{◌≡◌, Bool, ◌&&◌, List, ℕ, ◌^◌, ◌≤◌, ◌<◌, leb}
use Rattle.std.proofs.Common.{sym, ap, ◌∙◌, arith}
use Rattle.std.specs.Int.Count.{ones}
use Rattle.slices.specs.Places.{at, tab, over}
use Rattle.slices.specs.Filled.{over-at}
use Rattle.sums.specs.Sums.{sum}
use Rattle.sums.specs.Laws.{sum-cong}
use Rattle.block.specs.Basis.{before, best, candidate, apply}
use Rattle.choice_laws.specs.Choice.{best-cong}
use Rattle.choice_laws.specs.Chosen.{pick, pick-best}
use Rattle.matrix_laws.specs.Linear.{apply-cong}
use Rattle.matrix_laws.specs.Reach.{reach_rows, candidate-rows}
use Rattle.matrix_laws.specs.Candidate.{pick-independent}
use Rattle.matrix_steps.specs.Steps.{held}
use Rattle.block.specs.declared.Measures.{Measures}

-- 1 to w one-bits, and coordinates from 2^k on
unfoldable pub candidate_by : (ℕ → ℕ) → ℕ → ℕ → ℕ → ℕ → Bool
candidate_by s n k w t = leb 1 (ones t) && (leb (ones t) w && leb (2 ^ k) (apply s n t))

-- what the choice leaves: T and the matrix at the front of what was lent, the sums of the values at the units and at T's columns
pub record ChosenBasis (v : ℕ → ℕ) (n w : ℕ) (t s t' s' : List ℕ) (r : Measures) : Type 0 where
  pub basis : t' ≡ over (tab n (pick v n w)) t
  pub sigma : s' ≡ over (tab n (reach_rows n (pick v n w) n)) s
  pub earlier : r.before ≡ sum (λ i. v (2 ^ i)) n
  pub later : r.after ≡ sum (λ i. v (pick v n w i)) n

-- the best candidate by the matrix reached is the number that the rule takes
pub choose-turn : (v : ℕ → ℕ) (n w k r : ℕ) (l s : List ℕ) → 1 ≤ w → k < n → s ≡ over (tab n (reach_rows n (pick v n w) k)) l
    → r ≡ best (before v) (candidate_by (at s) n k w) (2 ^ n) → r ≡ pick v n w k
unfolding candidate_by
choose-turn v n w k r l s hw hk e d =
    let c : ℕ → ℕ = pick v n w in
    d
    ∙ best-cong (before v) (candidate_by (at s) n k w) (candidate w c k) (2 ^ n)
    (λ t ht.
    ap (λ (y : ℕ). leb 1 (ones t) && (leb (ones t) w && leb (2 ^ k) y)) (apply-cong (at s) (reach_rows n c k) n t (held n c k l s e))
    ∙ sym (candidate-rows w n c k (omega arith) (pick-independent v n w hw k (omega arith)) t ht))
    ∙ sym (pick-best v n w k)

-- the values at places that a slice holds
pub sum-held : (v f : ℕ → ℕ) (n : ℕ) (l s : List ℕ) → s ≡ over (tab n f) l → sum (λ i. v (at s i)) n ≡ sum (λ i. v (f i)) n
sum-held v f n l s e =
    sum-cong (λ i. v (at s i)) (λ i. v (f i)) n (λ i h. ap v (ap (λ (m : List ℕ). at m i) e ∙ over-at n f l 0 i h))

-- Demand 2, the chosen basis: each number taken is a candidate, has the greatest R, of these the fewest one-bits, is the smallest of
-- those (02, Ticket 1), and no other number is; so the rule leaves one basis. Every step has a candidate. For any block f with n inputs,
-- and any weight limit w from 1 on. Assumes nothing.
use Rattle.std.specs.Prelude.{◌≡◌, true, ℕ, zero, suc, ◌^◌, ◌≤◌, ◌<◌}
use Rattle.std.proofs.Common.{sym, ◌∙◌, arith}
use Rattle.std.specs.Int.Count.{ones}
use Rattle.slices.specs.Places.{at}
use Rattle.sums.specs.Laws.{below_suc}
use Rattle.block.specs.Measure.{shift}
use Rattle.block.specs.Basis.{candidate, basis_of}
use Rattle.choice_laws.specs.Choice.{choice-greatest, choice-fewest, choice-smallest}
use Rattle.choice_laws.specs.Chosen.{pick, basis-at, candidate-cong}
use Rattle.matrix_laws.specs.Candidate.{candidate-unit, pick-choice, basis-independent}
use Rattle.matrix_laws.specs.Reached.{independent-fewer}

-- b is the number that step k + 1 takes, after c 0 .. c (k - 1) (01, The basis and the matrix; 02, Ticket 1)
pub record Taken (f : ℕ → ℕ) (n w : ℕ) (c : ℕ → ℕ) (k b : ℕ) : Type 0 where
  pub below : b < 2 ^ n
  pub allowed : candidate w c k b ≡ true
  pub greatest : (t : ℕ) → t < 2 ^ n → candidate w c k t ≡ true → shift f n t ≤ shift f n b
  pub fewest : (t : ℕ) → t < 2 ^ n → candidate w c k t ≡ true → shift f n t ≡ shift f n b → ones b ≤ ones t
  pub smallest : (t : ℕ) → t < 2 ^ n → candidate w c k t ≡ true → shift f n t ≡ shift f n b → ones t ≡ ones b → b ≤ t

-- only one number can be taken
pub taken-once : (f : ℕ → ℕ) (n w : ℕ) (c : ℕ → ℕ) (k a b : ℕ) → Taken f n w c k a → Taken f n w c k b → a ≡ b
taken-once f n w c k a b p q =
    let e : shift f n a ≡ shift f n b = omega (arith, p.greatest b q.below q.allowed, q.greatest a p.below p.allowed) in
    let o : ones a ≡ ones b = omega (arith, p.fewest b q.below q.allowed (sym e), q.fewest a p.below p.allowed e) in
    omega (arith, p.smallest b q.below q.allowed (sym e) (sym o), q.smallest a p.below p.allowed e o)

-- what was taken before may be named by any function with the same values
taken-cong : (f : ℕ → ℕ) (n w : ℕ) (c d : ℕ → ℕ) (k b : ℕ) → ((j : ℕ) → j < k → c j ≡ d j) → Taken f n w c k b → Taken f n w d k b
taken-cong f n w c d k b h p =
    record {
      below = p.below;
      allowed = sym (candidate-cong w c d k h b) ∙ p.allowed;
      greatest = λ t l e. p.greatest t l (candidate-cong w c d k h t ∙ e);
      fewest = λ t l e. p.fewest t l (candidate-cong w c d k h t ∙ e);
      smallest = λ t l e. p.smallest t l (candidate-cong w c d k h t ∙ e);
    }

module _ (f : ℕ → ℕ) (n w : ℕ) (hw : 1 ≤ w) where
  -- every step of the basis takes the number that the rule asks for
  pub basis-taken : (k : ℕ) → k < n → Taken f n w (at (basis_of f n w)) k (at (basis_of f n w) k)
  basis-taken k h =
      rw (basis-at f n w k h)
      (taken-cong f n w (pick (shift f n) n w) (at (basis_of f n w)) k (pick (shift f n) n w k)
      (λ j l. sym (basis-at f n w j (omega arith)))
      (let c = pick-choice (shift f n) n w hw k h in
      record {
        below = c.below;
        allowed = c.passes;
        greatest = choice-greatest (shift f n) _ (2 ^ n) _ c;
        fewest = choice-fewest (shift f n) _ (2 ^ n) _ c;
        smallest = choice-smallest (shift f n) _ (2 ^ n) _ c;
      }))

  -- numbers that are taken by the rule at every step are the basis
  pub basis-only : (c : ℕ → ℕ) → ((k : ℕ) → k < n → Taken f n w c k (c k)) → (k : ℕ) → k ≤ n → (j : ℕ) → j < k
      → c j ≡ at (basis_of f n w) j
  basis-only c h zero l j b = absurd (omega arith)
  basis-only c h (suc k) l j b =
      let ih : (j : ℕ) → j < k → c j ≡ at (basis_of f n w) j = basis-only c h k (omega arith) in
      below_suc (λ (j : ℕ). c j ≡ at (basis_of f n w) j) k ih
      (taken-once f n w (at (basis_of f n w)) k (c k) (at (basis_of f n w) k)
      (taken-cong f n w c (at (basis_of f n w)) k (c k) ih (h k (omega arith)))
      (basis-taken k (omega arith)))
      j b

  -- no step is without a candidate: a unit number is one
  pub basis-goes-on : (k : ℕ) → k < n → (i : ℕ) × (i < n) × (candidate w (at (basis_of f n w)) k (2 ^ i) ≡ true)
  basis-goes-on k h =
      candidate-unit w n (at (basis_of f n w)) k hw h
      (independent-fewer (at (basis_of f n w)) n k n (omega arith) (basis-independent f n w hw))

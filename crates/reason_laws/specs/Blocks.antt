-- The reasons for a block f with n inputs and any weight limit w from 1 on, under the order of candidates (02, Ticket 7: "the order of greater
-- R, then Ticket 1"). "The reason given must be the true one, and the set named is the only such set." Assumes nothing.
use Rattle.std.specs.Prelude.{◌≡◌, ℕ, ◌^◌, ◌≤◌, ◌<◌}
use Rattle.std.proofs.Math.Path.{sym, ap}
use Rattle.std.proofs.Common.{◌∙◌}
use Rattle.bits.specs.Digits.{bit}
use Rattle.slices.specs.Places.{at}
use Rattle.block.specs.Measure.{shift}
use Rattle.block.specs.Basis.{before, columns, apply, basis_of, sigma_of}
use Rattle.block.specs.Reasons.{XorOf, Holds, FirstToHold, set_of, reason_of}
use Rattle.block.specs.declared.Reason.{Reason}
use Rattle.block.specs.declared.Reason.TheVariants.{Taken}
use Rattle.choice_laws.specs.Order.{before-strict, Ahead, before-true}
use Rattle.matrix_laws.specs.Candidate.{basis-independent}
use Rattle.matrix_laws.specs.Inverse.{sigma-columns}
use Rattle.matrix_laws.specs.Ordered.{basis-ordered}
use Rattle.reason_laws.specs.Sets as sets
use Rattle.reason_laws.specs.First as first

module _ (f : ℕ → ℕ) (n w : ℕ) (hw : 1 ≤ w) where
  -- the reason given is the first that holds
  pub reason-first : (t : ℕ) → t < 2 ^ n → FirstToHold (before (shift f n)) n w (at (basis_of f n w)) t (reason_of f n w t)
  unfolding reason_of
  reason-first = first.reason-first (before (shift f n)) n w (at (basis_of f n w)) (basis-ordered f n w hw)

  -- and no other is
  pub reason-only : (t : ℕ) → t < 2 ^ n → (p : Reason) → FirstToHold (before (shift f n)) n w (at (basis_of f n w)) t p → reason_of f n w t ≡ p
  unfolding reason_of
  reason-only = first.reason-only (before (shift f n)) n w (at (basis_of f n w)) (basis-ordered f n w hw)

  -- the set that is found is sigma t
  pub set-sigma : (t : ℕ) → t < 2 ^ n → set_of n (at (basis_of f n w)) t ≡ apply (at (sigma_of f n w)) n t
  unfolding sigma_of
  set-sigma = sets.set-inverse (at (basis_of f n w)) n (basis-independent f n w hw)

  -- it is the only set of taken numbers with the XOR t
  pub set-only : (t z : ℕ) → z < 2 ^ n → columns (at (basis_of f n w)) n z ≡ t → z ≡ apply (at (sigma_of f n w)) n t
  unfolding sigma_of
  set-only t z h e = sym (sigma-columns (at (basis_of f n w)) n (basis-independent f n w hw) z h) ∙ ap (apply (at (sigma_of f n w)) n) e

  -- t was taken at step j + 1 exactly where sigma t is 2^j
  pub taken-sigma : (j t : ℕ) → j < n → at (basis_of f n w) j ≡ t → apply (at (sigma_of f n w)) n t ≡ 2 ^ j
  unfolding sigma_of
  taken-sigma = sets.taken-sigma (at (basis_of f n w)) n (basis-independent f n w hw)

  pub sigma-taken : (j t : ℕ) → j < n → t < 2 ^ n → apply (at (sigma_of f n w)) n t ≡ 2 ^ j → at (basis_of f n w) j ≡ t
  unfolding sigma_of
  sigma-taken = sets.sigma-taken (at (basis_of f n w)) n (basis-independent f n w hw)

  -- a number that is the XOR of such a set is not taken: the last two reasons never both hold
  pub xor-untaken : (t z : ℕ) → XorOf (before (shift f n)) n (at (basis_of f n w)) t z
      → (step : ℕ) → Holds (before (shift f n)) n w (at (basis_of f n w)) t (Taken step) → ⊥
  xor-untaken = first.xor-untaken (before (shift f n)) n w (at (basis_of f n w)) (basis-ordered f n w hw) (before-strict (shift f n))

-- each number of the set has no smaller R than t; at equal R no more one-bits, and with as many it is the smaller number
pub xor-ahead : (f : ℕ → ℕ) (n w t z : ℕ) → XorOf (before (shift f n)) n (at (basis_of f n w)) t z → (j : ℕ) → j < n → bit z j ≡ 1
    → Ahead (shift f n) (at (basis_of f n w) j) t
xor-ahead f n w t z q j l b = before-true (shift f n) (at (basis_of f n w) j) t (q.before j l b)

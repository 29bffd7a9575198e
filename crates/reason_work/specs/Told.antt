-- The reason, told by what was found: the taken numbers and sigma, at the front of what was lent. Assumes nothing.
use Rattle.std.specs.Prelude.{◌≡◌, List, ℕ, suc, ◌^◌, ◌≤◌, ◌<◌, eqb, ltb}
use Rattle.std.proofs.Common.{sym, ◌∙◌}
use Rattle.std.proofs.Math.Path.{ap₂}
use Rattle.std.proofs.Math.Bool.{cond}
use Rattle.std.specs.Int.Count.{ones}
use Rattle.slices.specs.Places.{at}
use Rattle.block.specs.Basis.{apply, basis_of, sigma_of}
use Rattle.block.specs.Reasons.{set_of, reason, reason_of}
use Rattle.block.specs.declared.Measures.{Measures}
use Rattle.block.specs.declared.Reason.TheVariants.{Zero, Over, Taken, Xor}
use Rattle.matrix_laws.specs.Linear.{apply-cong}
use Rattle.reason_laws.specs.Sets.{place-cong, set-cong}
use Rattle.reason_laws.specs.Blocks.{set-sigma}
use Rattle.choosing.specs.Found.{Found, found-basis-at, found-sigma-at}

module _ {f : ℕ → ℕ} {n w : ℕ} {t s t' s' : List ℕ} {r : Measures} (o : Found f n w t s t' s' r) (x : ℕ) where
  -- sigma sends x to its set
  pub found-set : 1 ≤ w → x < 2 ^ n → apply (at s') n x ≡ set_of n (at t') x
  found-set hw h =
      apply-cong (at s') (at (sigma_of f n w)) n x (found-sigma-at o)
      ∙ sym (set-sigma f n w hw x h)
      ∙ sym (set-cong (at t') (at (basis_of f n w)) n x (found-basis-at o))

  -- the reason by the numbers found is that of the block
  pub found-reason : reason n w (at t') x ≡ reason_of f n w x
  unfolding reason reason_of
  found-reason =
      ap₂ (λ (p z : ℕ). cond (eqb x 0) Zero (cond (ltb w (ones x)) Over (cond (ltb p n) (Taken (suc p)) (Xor z))))
      (place-cong (at t') (at (basis_of f n w)) n x (found-basis-at o))
      (set-cong (at t') (at (basis_of f n w)) n x (found-basis-at o))

-- What is chosen by a list of values that agree with R of a block where the rule asks for it: the block's T and sigma, and both its
-- measures, which ask R of units and of columns of T alone. Assumes nothing.
use Rattle.std.specs.Prelude.{◌≡◌, length, drop}
use Rattle.std.proofs.Math.Path.{sym, ap, fun_ext}
use Rattle.std.proofs.Common.{◌∙◌, arith}
use mathlib.Core.List.{List}
use Prim.Native.Nat.{ℕ, ◌^◌, ◌≤◌, ◌<◌}
use Rattle.std.proofs.Math.ListN.{get_or-append}
use Rattle.std.proofs.Math.Pow.{pow-lt}
use Rattle.bits.specs.Parity.{ones-pow}
use Rattle.slices.specs.Places.{at, tab, over}
use Rattle.slices.specs.Filled.{over-at}
use Rattle.sums.specs.Laws.{sum-cong}
use Rattle.block.specs.Measure.{shift, measure}
use Rattle.block.specs.Basis.{basis_of, sigma_of, smaller_of}
use Rattle.choice_laws.specs.Chosen.{Agree, pick, pick-lt, pick-cong, basis-tab, basis-at}
use Rattle.matrix_laws.specs.Reach.{reach_rows}
use Rattle.matrix_laws.specs.Candidate.{pick-ones, basis-independent}
use Rattle.matrix_laws.specs.Inverse.{sigma-tab, length-basis, length-sigma}
use Rattle.matrix_laws.specs.Smaller.{measure-smaller}
use Rattle.choosing.specs.Steps.{ChosenBasis}
use Rattle.block.specs.declared.Measures.{Measures}

-- of a block f: T and sigma lie at the front of what was lent, and both measures come back
pub record Found (f : ℕ → ℕ) (n w : ℕ) (t s t' s' : List ℕ) (r : Measures) : Type 0 where
  pub basis : t' ≡ over (basis_of f n w) t
  pub sigma : s' ≡ over (sigma_of f n w) s
  pub earlier : r.before ≡ measure f n
  pub later : r.after ≡ measure (smaller_of f n w) n

-- what lies there is read as T and sigma are
module _ {f : ℕ → ℕ} {n w : ℕ} {t s t' s' : List ℕ} {r : Measures} (o : Found f n w t s t' s' r) where
  front : (x p p' : List ℕ) → p' ≡ over x p → length x ≡ n → (j : ℕ) → j < n → at p' j ≡ at x j
  front x p p' e m j h = ap (λ (l : List ℕ). at l j) e ∙ get_or-append x (drop (length x) p) 0 j (omega arith)

  pub found-basis-at : (j : ℕ) → j < n → at t' j ≡ at (basis_of f n w) j
  found-basis-at = front (basis_of f n w) t t' o.basis (length-basis f n w)

  pub found-sigma-at : (j : ℕ) → j < n → at s' j ≡ at (sigma_of f n w) j
  found-sigma-at = front (sigma_of f n w) s s' o.sigma (length-sigma f n w)

module _ (f : ℕ → ℕ) (n w : ℕ) (hw : 1 ≤ w) (v : ℕ → ℕ) (agree : Agree v (shift f n) n w) where
  picked : pick v n w ≡ pick (shift f n) n w
  picked = fun_ext (pick-cong v (shift f n) n w agree)

  -- column j, in the slice
  pub found-column : (t t' : List ℕ) → t' ≡ over (tab n (pick v n w)) t → (j : ℕ) → j < n → at t' j ≡ at (basis_of f n w) j
  found-column t t' b j h =
      ap (λ (l : List ℕ). at l j) b ∙ over-at n (pick v n w) t 0 j h ∙ ap (λ (p : ℕ → ℕ). p j) picked ∙ sym (basis-at f n w j h)

  unit : (i : ℕ) → i < n → v (2 ^ i) ≡ shift f n (2 ^ i)
  unit i h = agree (2 ^ i) (pow-lt h) (omega (arith, ones-pow i)) (omega (arith, ones-pow i))

  chosen : (i : ℕ) → i < n → v (pick v n w i) ≡ shift f n (at (basis_of f n w) i)
  chosen i h =
      agree (pick v n w i) (pick-lt v n w i) (pick-ones v n w hw i h).0 (pick-ones v n w hw i h).1
      ∙ ap (shift f n) (ap (λ (p : ℕ → ℕ). p i) picked ∙ sym (basis-at f n w i h))

  -- what is chosen by the values is what the rule asks
  pub found : (t s t' s' : List ℕ) (r : Measures) → ChosenBasis v n w t s t' s' r → Found f n w t s t' s' r
  unfolding smaller_of measure
  found t s t' s' r c =
      record {
        basis = c.basis ∙ ap (λ (l : List ℕ). over l t) (ap (tab n) picked ∙ sym (basis-tab f n w));
        sigma =
            c.sigma
            ∙ ap (λ (l : List ℕ). over l s) (ap (λ (p : ℕ → ℕ). tab n (reach_rows n p n)) picked ∙ sym (sigma-tab f n w hw));
        earlier = c.earlier ∙ sum-cong _ _ n unit;
        later =
            c.later
            ∙ sum-cong _ (λ (i : ℕ). shift f n (at (basis_of f n w) i)) n chosen
            ∙ sym (measure-smaller f (at (basis_of f n w)) n (basis-independent f n w hw));
      }

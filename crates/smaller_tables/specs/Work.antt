-- What the work of the table method leaves, and how it follows from what its parts leave. Assumes nothing.
use Rattle.std.specs.Prelude.{◌≡◌, ℕ, ◌^◌, ◌≤◌, ◌<◌}
use Rattle.std.proofs.Math.Path.{ap}
use Rattle.std.proofs.Common.{◌∙◌}
use mathlib.Core.List.{List}
use Rattle.slices.specs.Places.{at, tab, over}
use Rattle.slices.specs.Filled.{tab-cong}
use Rattle.block.specs.Measure.{shift, measure}
use Rattle.block.specs.Basis.{columns, basis_of, sigma_of, smaller_of}
use Rattle.block.specs.Tables.{smaller_table}
use Rattle.choice_laws.specs.Chosen.{Agree, pick}
use Rattle.matrix_laws.specs.Linear.{columns-cong}
use Rattle.matrix_laws.specs.Candidate.{basis-independent}
use Rattle.table_shifts.specs.Light.{LightValues}
use Rattle.walks.specs.Walk.{Walked, value_at, value-agree}
use Rattle.choosing.specs.Steps.{ChosenBasis}
use Rattle.choosing.specs.Found.{found-column, found}
use Rattle.block.specs.declared.Measures.{Measures}

-- of a block f: T, sigma and the smaller table lie at the front of what was lent, and both measures come back
pub record Worked (f : ℕ → ℕ) (n w : ℕ) (t s z t' s' z' : List ℕ) (r : Measures) : Type 0 where
  pub basis : t' ≡ over (basis_of f n w) t
  pub sigma : s' ≡ over (sigma_of f n w) s
  pub smaller : z' ≡ over (smaller_table f n w) z
  pub earlier : r.before ≡ measure f n
  pub later : r.after ≡ measure (smaller_of f n w) n

-- R at the numbers of few one-bits, laid by the places of the walk, agrees with R where the rule asks for it
pub laid-agree : (f : ℕ → ℕ) (n w : ℕ) (by walk : List ℕ) (count : ℕ) (r values : List ℕ) → LightValues (shift f n) (2 ^ n) w by
    → Walked n w walk count → values ≡ over (tab count (λ i. at by (at walk i))) r → Agree (value_at walk values count) (shift f n) n w
laid-agree f n w by walk count r values e h d t b i j = value-agree n w walk count h (at by) r values d t b i j ∙ e.each t b j

module _ (f : ℕ → ℕ) (n w : ℕ) (hw : 1 ≤ w) (v : ℕ → ℕ) (agree : Agree v (shift f n) n w) where
  pub column-lt : (t t' : List ℕ) → t' ≡ over (tab n (pick v n w)) t → (j : ℕ) → j < n → at t' j < 2 ^ n
  column-lt t t' b j h = rw (found-column f n w hw v agree t t' b j h) ((basis-independent f n w hw).below j h)

  -- what the choice and the smaller table leave is what the rule asks
  pub worked : (t s z t' s' z' : List ℕ) (r : Measures) → ChosenBasis v n w t s t' s' r
      → z' ≡ over (tab (2 ^ n) (λ x. f (columns (at t') n x))) z → Worked f n w t s z t' s' z' r
  unfolding smaller_table smaller_of
  worked t s z t' s' z' r c e =
      let o = found f n w hw v agree t s t' s' r c in
      record {
        basis = o.basis;
        sigma = o.sigma;
        smaller =
            e
            ∙ ap (λ (l : List ℕ). over l z)
            (tab-cong (2 ^ n) _ _
            (λ x h. ap f (columns-cong (at t') (at (basis_of f n w)) n x (found-column f n w hw v agree t t' c.basis))));
        earlier = o.earlier;
        later = o.later;
      }

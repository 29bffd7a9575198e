-- Entries to which the cubes' part of R comes: what they hold before it, so that R is there once the cubes' part has come and what the
-- rows take has gone: what the points add. Not here: how the cubes are stored (`Stored`). Assumes nothing.
use Rattle.std.specs.Prelude.{◌≡◌, List, ℕ, ◌+◌, ◌*◌, ◌-◌, ◌^◌, ◌≤◌, ◌<◌}
use Rattle.std.proofs.Common.{ap, ◌∙◌, mul-le-mul, mul-one, arith, pow_mono}
use Rattle.slices.specs.Places.{at, tab, over}
use Rattle.slices.specs.Filled.{tab-cong, over-at, over-over}
use Rattle.block.specs.Words.{of_rows}
use Rattle.block.specs.Measure.{shift}
use Rattle.block.specs.declared.Row.{Row}
use Rattle.pair_laws.specs.Theorem.{Disjoint, counts, counts-le, often, often-weight, often-le, taken}
use Rattle.pair_laws.specs.Symmetric.{cubes_of}
use Rattle.missing_points.specs.Looped.{shift-parts}
use Rattle.row_shifts.specs.Stored.{CubesAt, added_by, cubes-added, cubes-small}

-- the first k entries of b, with what r cubes add at the t in each place, are f(t) and `less` more; with at most `most` inputs all is small
pub record Due (f : ℕ → ℕ) (most : ℕ) (m v w : List ℕ) (r less : ℕ) (ts b : List ℕ) (k : ℕ) : Type 0 where
  pub entries : (i : ℕ) → i < k → at b i ≤ 2 ^ most
  pub cubes : (i : ℕ) → i < k → added_by m v w r (at ts i) ≤ 2 ^ most * 2
  pub sums : (i : ℕ) → i < k → at b i + added_by m v w r (at ts i) ≡ f (at ts i) + less

-- with that done the entries hold f
pub due-done : (f base : ℕ → ℕ) (most : ℕ) (m v w : List ℕ) (r less : ℕ) (ts b : List ℕ) (k : ℕ) (l out : List ℕ)
    → Due f most m v w r less ts b k → b ≡ over (tab k base) l
    → out ≡ over (tab k (λ i. at b i + added_by m v w r (at ts i) - less)) b → out ≡ over (tab k (λ i. f (at ts i))) l
due-done f base most m v w r less ts b k l out d e h =
    h
    ∙ ap (λ (x : List ℕ). over x b) (tab-cong k _ (λ i. f (at ts i)) (λ i c. omega (arith, d.sums i c)))
    ∙ ap (over (tab k (λ i. f (at ts i)))) e
    ∙ over-over k base (λ i. f (at ts i)) l

module _ (o n : ℕ) (rs : List Row) (d : Disjoint n rs) (most : ℕ) (few : n ≤ most) (e : ℕ) (once : e ≤ 1) (m₀ v₀ w₀ m v w : List ℕ) (r : ℕ)
    (c : CubesAt (cubes_of (often o e) n rs) m₀ v₀ w₀ m v w r) (ts : List ℕ) (k : ℕ) (below : (i : ℕ) → i < k → at ts i < 2 ^ n) where
  small : (i : ℕ) → i < k → added_by m v w r (at ts i) ≤ 2 ^ most * 2
  small i h =
      cubes-small (often o e) n rs m₀ v₀ w₀ m v w r c o (often-weight o e) (λ a b. omega (arith, often-le o e a b)) d most (at ts i) (below i h) few

  -- the cubes of all pairs, and what the points add
  pub all-due : e ≡ counts o → (points less : ℕ) → points ≡ 2 ^ n * counts o → less ≡ taken o n rs → (b l : List ℕ)
      → b ≡ over (tab k (λ _. points)) l → Due (shift (of_rows o rs) n) most m v w r less ts b k
  all-due q points less p t b l h =
      record {
        entries =
            λ i g.
            let all : 2 ^ n * counts o ≤ 2 ^ most * 1 = mul-le-mul (pow_mono {j = most} few) (counts-le o) in
            omega (arith, held i g, mul-one (2 ^ most));
        cubes = small;
        sums =
            λ i g.
            omega (
              arith,
              held i g,
              shift-parts o n rs d (at ts i) (below i g) e points less _ q p t (cubes-added (often o e) n rs m₀ v₀ w₀ m v w r c (at ts i)),
            );
      }
    where
      held : (i : ℕ) → i < k → at b i ≡ points
      held i g = ap (λ (x : List ℕ). at x i) h ∙ over-at k (λ _. points) l 0 i g

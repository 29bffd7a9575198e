-- What the bytes of a sheet tell of a list (`Tells`, `TellsBlock`), and that the sheet of a list tells it (`sheet-tells`): by the laws of the row
-- method's answer, since a sheet says what was written on it. Assumes nothing.
use Rattle.std.specs.Prelude.{◌≡◌, refl, List, ℕ, ◌^◌, ◌≤◌, ◌<◌, ltb}
use Rattle.std.proofs.Common.{sym, arith}
use Rattle.slices.specs.Places.{at}
use Rattle.block.specs.Limits.{list_inputs, sheet_room}
use Rattle.block.specs.Words.{missing, of_rows}
use Rattle.block.specs.Measure.{measure}
use Rattle.block.specs.Basis.{columns, apply, basis_of, sigma_of, smaller_of}
use Rattle.block.specs.Lists.{smaller_list}
use Rattle.block.specs.Sheet.{sheet_text, sheet_verdict}
use Rattle.block.specs.Said.{Said, said}
use Rattle.block.specs.declared.Row.{Row}
use Rattle.answered_laws.specs.Passed.{MethodAnswered, method-answered}
use Rattle.matrix_laws.specs.Candidate.{basis-independent}
use Rattle.matrix_laws.specs.Inverse.{length-basis, length-sigma}
use Rattle.matrix_laws.specs.Smaller.{measure-points}
use Rattle.pair_laws.specs.Theorem.{Apart}
use Rattle.step_laws.specs.Smaller.{smaller-good, smaller-disjoint, smaller-word, smaller-rows}
use Rattle.demands.specs.Matrix.{sigma-lt, sigma-after-basis, basis-after-sigma}
use Rattle.sheet_laws.specs.Said.{Writable, said-written}
use Rattle.sheet_work.specs.Made.{measure-le}

-- what a sheet says tells the block of the list rs, of n inputs, k outputs and type y, worked out with weight limit w
pub record Tells (n k y w : ℕ) (rs : List Row) (s : Said) : Type 0 where
  pub inputs : s.inputs ≡ n
  pub outputs : s.outputs ≡ k
  pub weight : s.weight ≡ w
  -- the word of the list at x is the word of the sheet's rows, of the same type, at the sheet's sigma applied to x
  pub block : (x : ℕ) → x < 2 ^ n → of_rows (missing y) s.rows (apply (at s.sigma) n x) ≡ of_rows (missing y) rs x
  -- no two of the sheet's rows share a point
  pub apart : Apart n s.rows
  -- T and sigma are inverse to each other
  pub sigma-basis : (z : ℕ) → z < 2 ^ n → apply (at s.sigma) n (columns (at s.basis) n z) ≡ z
  pub basis-sigma : (x : ℕ) → x < 2 ^ n → columns (at s.basis) n (apply (at s.sigma) n x) ≡ x
  -- the two measures are those of the two blocks
  pub first-measure : s.earlier ≡ measure (of_rows (missing y) rs) n
  pub second-measure : s.later ≡ measure (of_rows (missing y) s.rows) n

-- these bytes, read as a sheet, tell it
abbrev pub TellsBlock : ℕ → ℕ → ℕ → ℕ → List Row → List ℕ → Type 0
TellsBlock n k y w rs bytes = Tells n k y w rs (said bytes)

module _ (n k y w : ℕ) (rs : List Row) (room : ℕ) (answers : (sheet_verdict n k y w rs room).number ≡ 0) where
  abbrev f : ℕ → ℕ
  f = of_rows (missing y) rs

  method : MethodAnswered n k y w rs (ltb room sheet_room)
  unfolding sheet_verdict
  method = method-answered n k y w rs (ltb room sheet_room) answers

  hw : 1 ≤ w
  hw = method.passed.weight.0

  inputs-le : n ≤ list_inputs
  inputs-le = method.passed.list.range.size.1

  writable : Writable n k w (measure f n) (measure (smaller_of f n w) n) (basis_of f n w) (sigma_of f n w) (smaller_list (missing y) n w rs)
  writable =
      record {
        sizes = (
          omega (arith, inputs-le),
          omega (arith, method.passed.list.range.columns.1),
          omega (arith, inputs-le, method.passed.weight.1),
        );
        measures = (
          omega (arith, measure-le list_inputs f n inputs-le),
          omega (arith, measure-le list_inputs (smaller_of f n w) n inputs-le),
        );
        basis = (length-basis f n w, (basis-independent f n w hw).below);
        sigma = (length-sigma f n w, sigma-lt f n w hw);
        count = omega (arith, method.few);
        rows = smaller-good (missing y) n w hw rs k method.passed.list.good;
      }

  -- what the sheet says
  pub sheet-said : said (sheet_text (missing y) n k w rs)
      ≡ record {
        inputs = n;
        outputs = k;
        weight = w;
        earlier = measure f n;
        later = measure (smaller_of f n w) n;
        basis = basis_of f n w;
        sigma = sigma_of f n w;
        rows = smaller_list (missing y) n w rs;
      }
  unfolding sheet_text
  sheet-said = said-written n k w _ _ (basis_of f n w) (sigma_of f n w) (smaller_list (missing y) n w rs) writable

  pub sheet-tells : TellsBlock n k y w rs (sheet_text (missing y) n k w rs)
  sheet-tells =
      let sound = method.passed.list.disjoint.sound in
      rw sheet-said
      (record {
        inputs = refl;
        outputs = refl;
        weight = refl;
        block = smaller-word (missing y) n w hw rs sound;
        apart = (smaller-disjoint (missing y) n w hw rs method.passed.list.disjoint).apart;
        sigma-basis = sigma-after-basis f n w hw;
        basis-sigma = basis-after-sigma f n w hw;
        first-measure = refl;
        second-measure = measure-points _ _ n (λ z l. sym (smaller-rows (missing y) n w hw rs sound z l));
      })

-- The model that is written for a list computes its block (02, Ticket 4: "Evaluating the written model at x gives the block's word there"):
-- under fd at every point, a missing one being word 0 (`fd-word`), and under fr wherever the block has an output (`fr-word`). The model's
-- word at x is that of the smaller rows at sigma x, and these are the list. Assumes nothing.
use Rattle.std.specs.Prelude.{◌≡◌, refl, Bool, true, cond, List, [], ◌∷◌, ℕ, ◌^◌, ◌<◌, ltb, length}
use Rattle.std.proofs.Common.{sym, ◌∙◌, arith, eqb-true}
use Rattle.std.proofs.Math.Bool.{false}
use Rattle.slices.specs.Places.{at}
use Rattle.block.specs.Words.{none, fr, fd, missing, of_rows}
use Rattle.block.specs.Basis.{apply, sigma_of}
use Rattle.block.specs.Refusals.{check, verdict, answered, and_then}
use Rattle.block.specs.Lists.{method_checks, smaller_list}
use Rattle.block.specs.Covers.{word_at}
use Rattle.block.specs.Model.{model_text, model_verdict}
use Rattle.block.specs.declared.Row.{Row}
use Rattle.block.specs.declared.Answer.{Answer}
use Rattle.pair_laws.specs.Share.{good-word}
use Rattle.answered_laws.specs.Passed.{MethodAnswered, method-answered}
use Rattle.step_laws.specs.Smaller.{smaller-good, smaller-disjoint, smaller-word}
use Rattle.demands.specs.Matrix.{sigma-lt}
use Rattle.model_laws.specs.Outputs.{word-driven}
use Rattle.model_laws.specs.Texts.{rows-word}

-- an answer of 0 after another was 0 before it
pub then-zero : (v u : Answer) → (and_then v u).number ≡ 0 → v.number ≡ 0
then-zero v u h = go (answered v) refl h
  where
    go : (b : Bool) → answered v ≡ b → (cond b u v).number ≡ 0 → v.number ≡ 0
    go true e h = eqb-true v.number 0 e
    go false e h = h

module _ (n k y w : ℕ) (rs : List Row) (room : ℕ) (answers : (model_verdict n k y w rs room).number ≡ 0) where
  -- what the verdict's 0 says of the list
  pub model-passes : MethodAnswered n k y w rs false
  unfolding model_verdict
  model-passes =
      method-answered n k y w rs false
      (then-zero (verdict (method_checks n k y w rs false))
      (verdict (check (ltb room (length (model_text (missing y) n k w rs))) 5 0 0 ∷ [])) answers)

  -- the model at x is the smaller rows at sigma x, 0 where they have none
  pub model-smaller : (x : ℕ) → word_at (model_text (missing y) n k w rs) x
      ≡ of_rows 0 (smaller_list (missing y) n w rs) (apply (at (sigma_of (of_rows (missing y) rs) n w)) n x)
  unfolding model_text
  model-smaller x =
      let p = model-passes.passed in
      let range = p.list.range in
      let hw = p.weight.0 in
      let d = smaller-disjoint (missing y) n w hw rs p.list.disjoint in
      rows-word n k x (sigma_of (of_rows (missing y) rs) n w) (smaller_list (missing y) n w rs) range.size.0
      (omega (arith, range.size.1)) (omega (arith, range.columns.1)) (sigma-lt (of_rows (missing y) rs) n w hw) d.sound
      (λ i l. good-word n k _ (smaller-good (missing y) n w hw rs k p.list.good i l)) d.apart

  list-word : (x : ℕ) → x < 2 ^ n
      → of_rows (missing y) (smaller_list (missing y) n w rs) (apply (at (sigma_of (of_rows (missing y) rs) n w)) n x) ≡ of_rows (missing y) rs x
  list-word = smaller-word (missing y) n w model-passes.passed.weight.0 rs model-passes.passed.list.disjoint.sound

  -- where the block has an output, whatever its type
  pub model-output : (x : ℕ) → x < 2 ^ n → (of_rows (missing y) rs x ≡ missing y → ⊥)
      → word_at (model_text (missing y) n k w rs) x ≡ of_rows (missing y) rs x
  model-output x h o =
      model-smaller x ∙ word-driven (smaller_list (missing y) n w rs) _ (missing y) (λ e. o (sym (list-word x h) ∙ e)) ∙ list-word x h

-- fd: at every point
pub fd-word : (n k w : ℕ) (rs : List Row) (room : ℕ) → (model_verdict n k fd w rs room).number ≡ 0 → (x : ℕ) → x < 2 ^ n
    → word_at (model_text (missing fd) n k w rs) x ≡ of_rows (missing fd) rs x
fd-word n k w rs room answers x h = model-smaller n k fd w rs room answers x ∙ list-word n k fd w rs room answers x h

-- fr: where the block has an output
pub fr-word : (n k w : ℕ) (rs : List Row) (room : ℕ) → (model_verdict n k fr w rs room).number ≡ 0 → (x : ℕ) → x < 2 ^ n
    → (of_rows (missing fr) rs x ≡ none → ⊥) → word_at (model_text (missing fr) n k w rs) x ≡ of_rows (missing fr) rs x
fr-word n k w rs room answers x h o = model-output n k fr w rs room answers x h o

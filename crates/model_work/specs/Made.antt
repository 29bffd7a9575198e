-- The model by what the row method leaves in working storage: where it refuses, so does the writing; where it answers 0, the text put from
-- that storage is the model of 02, Ticket 4, or the room is too short for it. Assumes nothing.
use Rattle.std.specs.Prelude.{◌≡◌, false, cond, ℕ, ◌≤◌, ◌<◌, ltb, length, take}
use Rattle.std.proofs.Math.Path.{refl, ap₂}
use Rattle.std.proofs.Common.{sym, ap, ◌∙◌, arith, lt-ltb, le-ltb, length-take}
use mathlib.Core.List.{List, []}
use Rattle.slices.specs.Places.{at, over}
use Rattle.block.specs.Limits.{list_inputs}
use Rattle.block.specs.Words.{missing, of_rows}
use Rattle.block.specs.Basis.{basis_of, sigma_of}
use Rattle.block.specs.Refusals.{check, answer, verdict, stored}
use Rattle.block.specs.Lists.{method_checks}
use Rattle.block.specs.Model.{block_model, model_text, model_verdict, write_model}
use Rattle.block.specs.declared.Row.{Row}
use Rattle.block.specs.declared.Answer.{Answer}
use Rattle.block.specs.declared.TextAnswer.{TextAnswer}
use Rattle.block.specs.declared.RowMethodAnswer.{RowMethodAnswer}
use Rattle.refusal_laws.specs.Verdicts.{verdict-hit, verdict-miss, verdict-none, then-refused, then-answered, Written, not_written}
use Rattle.matrix_laws.specs.Candidate.{basis-independent}
use Rattle.matrix_laws.specs.Inverse.{inverse-lt}
use Rattle.flat_rows.specs.Listing.{rows_from}
use Rattle.row_work.specs.Method.{MethodDone}
use Rattle.row_work.specs.Left.{left-number, left-zero, left-ready, left-count, left-sigma, left-rows}
use Rattle.put_chains.specs.Rows.{Below}

module _ {n k y w : ℕ} {rs : List Row} {t s m v d t' s' m' v' d' : List ℕ} {r : RowMethodAnswer} (l : List ℕ)
    (g : MethodDone n k y w rs false t s m v d t' s' m' v' d' r) where
  abbrev u : Answer
  u = verdict (method_checks n k y w rs false)

  abbrev text : List ℕ
  text = model_text (missing y) n k w rs

  -- the answer and the slice, as they are to be
  abbrev Done : TextAnswer → List ℕ → Type 0
  Done a l' = (a ≡ write_model n k y w rs (length l)) × (l' ≡ stored (model_verdict n k y w rs (length l)) text l)

  done : (v : Answer) (a : TextAnswer) (l' : List ℕ) → v ≡ model_verdict n k y w rs (length l) → Written v text l a l' → Done a l'
  unfolding write_model
  done v a l' e p = rw (← e) p

  -- a refusal of the row method
  pub model-refused : (r.number ≡ 0 → ⊥) → Done (record { number = r.number; a = r.a; b = r.b; count = 0 }) l
  unfolding model_verdict
  model-refused h =
      let z : u.number ≡ 0 → ⊥ = λ e. h (left-number g ∙ e) in
      done u _ l (then-refused u _ z) (rw g.answers (not_written u u text l refl z))

  module _ (h : r.number ≡ 0) where
    -- there are so few inputs that the storage holds sigma
    pub model-inputs : n ≤ list_inputs
    model-inputs = (left-ready g h).passed.list.range.size.1

    below : Below n (take n s')
    unfolding sigma_of
    below =
        rw (left-sigma g h)
        (inverse-lt (at (basis_of (of_rows (missing y) rs) n w)) n
        (basis-independent (of_rows (missing y) rs) n w (left-ready g h).passed.weight.0))

    -- what the text is put from is in range
    pub model-ready : n ≤ length s' → (n < 100) × (k ≤ 15) × (r.count ≤ 512) × (n ≤ length (take n s')) × Below n (take n s')
    model-ready q = (
      omega (arith, model-inputs),
      (left-ready g h).passed.list.range.columns.1,
      rw (left-count g h) (left-ready g h).few,
      simp length-take (omega arith),
      below,
    )

    -- the text put from the storage is the model
    same_text : block_model n k (take n s') (rows_from r.count m' v' d') ≡ text
    unfolding model_text
    same_text = ap₂ (block_model n k) (left-sigma g h) (left-rows g h)

    module _ (l' : List ℕ) (c : ℕ) (long : c ≡ length (block_model n k (take n s') (rows_from r.count m' v' d')))
        (lies : l' ≡ cond (ltb (length l) c) l (over (block_model n k (take n s') (rows_from r.count m' v' d')) l)) where
      length-text : c ≡ length text
      length-text = long ∙ ap length same_text

      -- the room is too short
      pub model-short : length l < c → Done (record { number = 5; a = 0; b = 0; count = 0 }) l'
      unfolding model_verdict
      model-short q =
          done (answer 5 0 0) _ l'
          (sym (verdict-hit (check (ltb (length l) (length text)) 5 0 0) [] (lt-ltb (length l) (length text) (omega (arith, length-text))))
          ∙ then-answered u _ (left-zero g h))
          (refl, lies ∙ rw (lt-ltb (length l) c q))

      -- the model is written
      pub model-written : c ≤ length l → Done (record { number = 0; a = 0; b = 0; count = c }) l'
      unfolding model_verdict
      model-written q =
          done (answer 0 0 0) _ l'
          (sym
          (verdict-miss (check (ltb (length l) (length text)) 5 0 0) [] (le-ltb (length l) (length text) (omega (arith, length-text)))
          ∙ verdict-none)
          ∙ then-answered u _ (left-zero g h))
          (rw length-text refl, lies ∙ rw (le-ltb (length l) c q, same_text))

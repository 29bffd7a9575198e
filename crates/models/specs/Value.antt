-- The answer of evaluating a model that was read, as the operation comes to it: a refusal before 8, then 8, and else the word. Assumes nothing.
use Rattle.std.specs.Prelude.{◌≡◌, refl, ℕ, ◌≤◌, ◌<◌}
use Rattle.std.proofs.Math.Path.{sym, ap}
use Rattle.std.proofs.Common.{ap₂, ◌∙◌, arith}
use mathlib.Core.List.{List, [], ◌∷◌}
use borrow.Author.Tests.{lt-ltb, le-ltb}
use Rattle.std.proofs.Math.Dec.{ltb}
use Rattle.slices.specs.Places.{at}
use Rattle.block.specs.Basis.{apply}
use Rattle.block.specs.Refusals.{Check, check, answer, verdict, dependent}
use Rattle.block.specs.Tables.{with_value}
use Rattle.block.specs.Covers.{word_at}
use Rattle.block.specs.Model.{model_of}
use Rattle.block.specs.ModelRead.{patterns_flat, dealt, model_value_verdict, model_value}
use Rattle.block.specs.declared.Pattern.{Pattern}
use Rattle.block.specs.declared.Answer.{Answer}
use Rattle.block.specs.declared.ValueAnswer.{ValueAnswer}
use Rattle.refusal_laws.specs.Verdicts.{verdict-hit, verdict-miss, verdict-none, part-refuses, part-passes, value-refused, value-answered}
use Rattle.model_values.specs.Checks.{value_checked, value-passed}
use Rattle.model_values.specs.Driven.{driven_word}
use Rattle.model_values.specs.Dealt.{value-word}

module _ (n k x : ℕ) (sigma counts : List ℕ) (ps : List Pattern) where
  abbrev last : Check
  last = check (ltb (dependent n (at sigma)) n) 8 (dependent n (at sigma)) 0

  abbrev word : ℕ
  word = word_at (model_of n sigma (dealt counts ps)) x

  pub value-refused-early : (v : Answer) → v ≡ verdict (value_checked n k x sigma counts ps) → (v.number ≡ 0 → ⊥)
      → record { number = v.number; a = v.a; b = v.b; value = 0 } ≡ model_value n k x sigma counts ps
  unfolding model_value model_value_verdict value_checked
  value-refused-early v e h =
      value-refused v word h ∙ ap (λ (u : Answer). with_value u word) (part-refuses v (value_checked n k x sigma counts ps) (last ∷ []) e h)

  -- the checks before 8 passed
  left : (v : Answer) → v ≡ verdict (value_checked n k x sigma counts ps) → v.number ≡ 0 → verdict (last ∷ []) ≡ model_value_verdict n k x sigma counts ps
  unfolding model_value_verdict value_checked
  left v e h =
      part-passes v (value_checked n k x sigma counts ps) (last ∷ []) e (refl, (refl, (refl, (refl, (refl, (refl, tt)))))) h

  pub value-dependent : (v : Answer) (j : ℕ) → v ≡ verdict (value_checked n k x sigma counts ps) → v.number ≡ 0
      → j ≡ dependent n (at sigma) → j < n → record { number = 8; a = j; b = 0; value = 0 } ≡ model_value n k x sigma counts ps
  unfolding model_value
  value-dependent v j e h d l =
      value-refused (answer 8 j 0) word (λ z. omega arith)
      ∙ ap (λ (u : Answer). with_value u word)
      (ap (λ (j : ℕ). answer 8 j 0) d
      ∙ sym (verdict-hit last [] (ap (λ (i : ℕ). ltb i n) (sym d) ∙ lt-ltb j n l))
      ∙ left v e h)

pub value-given : (n k x : ℕ) (sigma counts masks values : List ℕ) (v : Answer) (j z w : ℕ)
    → v ≡ verdict (value_checked n k x sigma counts (patterns_flat masks values)) → v.number ≡ 0 → j ≡ dependent n (at sigma) → n ≤ j
    → z ≡ apply (at sigma) n x → w ≡ driven_word k counts masks values z
    → record { number = 0; a = 0; b = 0; value = w } ≡ model_value n k x sigma counts (patterns_flat masks values)
unfolding model_value
value-given n k x sigma counts masks values v j z w e h d l f g =
    value-answered (answer 0 0 0) w refl
    ∙ ap₂ with_value
    (sym (verdict-miss (last n k x sigma counts ps) [] (ap (λ (i : ℕ). ltb i n) (sym d) ∙ le-ltb j n l) ∙ verdict-none) ∙ left n k x sigma counts ps v e h)
    (g ∙ ap (driven_word k counts masks values) f ∙ value-word n k x sigma counts masks values (value-passed n k x sigma counts ps v e h))
  where
    ps : List Pattern
    ps = patterns_flat masks values

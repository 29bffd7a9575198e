-- Demand 1 over the bytes: the program prints a sheet or the line of a refusal, and which of the two its first byte tells: 115 is the
-- letter s, 114 the letter r (`printed-one`). Assumes nothing.
use Rattle.std.specs.Prelude.{◌≡◌, refl, Bool, true, false, cond, List, ◌⊎◌, ℕ}
use Rattle.std.proofs.Common.{inl, inr, arith, eqb-true}
use Rattle.std.proofs.lemmas.Bool.{eqb-false}
use Rattle.slices.specs.Places.{at}
use Rattle.block.specs.Refusals.{answered}
use Rattle.block.specs.Sheet.{section, sheet_of, sheet_text, refusal_line, or_refused, printed}
use Rattle.block.specs.declared.Row.{Row}
use Rattle.block.specs.declared.Answer.{Answer}
use Rattle.text_work.specs.Work.{text_verdict, sheet_in}
use Rattle.printing.specs.Printed.{printed-by}

-- what is printed for a text: one of the two, the sheet where its list is answered and the line of the refusal where it is not
pub record PrintsOne (input bytes : List ℕ) : Type 0 where
  pub one : (at bytes 0 ≡ 115) ⊎ (at bytes 0 ≡ 114)
  pub sheet : at bytes 0 ≡ 115 → ((text_verdict input).number ≡ 0) × (bytes ≡ sheet_in input)
  pub refusal : at bytes 0 ≡ 114 → ((text_verdict input).number ≡ 0 → ⊥) × (bytes ≡ refusal_line (text_verdict input))

sheet-first : (m n k w : ℕ) (rs : List Row) → at (sheet_text m n k w rs) 0 ≡ 115
unfolding sheet_text sheet_of section
sheet-first m n k w rs = refl

input-first : (input : List ℕ) → at (sheet_in input) 0 ≡ 115
unfolding sheet_in
input-first input = sheet-first _ _ _ _ _

pub refusal-first : (v : Answer) → at (refusal_line v) 0 ≡ 114
unfolding refusal_line
refusal-first v = refl

pub printed-one : (input : List ℕ) → PrintsOne input (printed input)
unfolding or_refused
printed-one input = rw (printed-by input) (go (answered (text_verdict input)) refl)
  where
    go : (b : Bool) → answered (text_verdict input) ≡ b → PrintsOne input (cond b (sheet_in input) (refusal_line (text_verdict input)))
    go true e =
        record {
          one = inl (input-first input);
          sheet = λ _. (eqb-true _ 0 e, refl);
          refusal = λ f. absurd (omega (arith, input-first input, f));
        }
    go false e =
        record {
          one = inr (refusal-first (text_verdict input));
          sheet = λ f. absurd (omega (arith, refusal-first (text_verdict input), f));
          refusal = λ _. (eqb-false _ 0 e, refl);
        }

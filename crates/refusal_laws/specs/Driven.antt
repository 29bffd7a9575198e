-- Refusal 11 (02, Ticket 8): which columns words drive, one more word and two lists of words; where the check does not hold, every
-- column is driven, and the other way round. Assumes nothing.
use Rattle.std.specs.Prelude.{◌≡◌, refl, Bool, true, false, not, ◌||◌, List, [], ◌∷◌, ◌++◌, ℕ, ◌<◌, eqb}
use Rattle.std.proofs.Common.{sym, ap, ◌∙◌}
use Rattle.std.proofs.Math.Bool.{or_assoc}
use Rattle.std.proofs.lemmas.Bool.{not-false}
use Rattle.bits.specs.Digits.{bit}
use Rattle.block.specs.Refusals.{driven, undriven}
use Rattle.block.specs.Lists.{undriven_check}
use Rattle.refusal_laws.specs.Verdicts.{none_passes, passes_none}

pub driven-none : (j : ℕ) → driven [] j ≡ false
unfolding driven
driven-none j = refl

-- two lists of words
pub driven-append : (ws vs : List ℕ) (j : ℕ) → driven (ws ++ vs) j ≡ driven ws j || driven vs j
unfolding driven
driven-append [] vs j = refl
driven-append (w ∷ ws) vs j =
    ap (λ (b : Bool). eqb (bit w j) 1 || b) (driven-append ws vs j) ∙ sym (or_assoc (eqb (bit w j) 1) (driven ws j) (driven vs j))

-- the words drive each of k columns
abbrev pub AllDriven : ℕ → List ℕ → Type 0
AllDriven k words = (j : ℕ) → j < k → driven words j ≡ true

pub check-driven : (k : ℕ) (words : List ℕ) → (undriven_check k words).holds ≡ false → AllDriven k words
unfolding undriven
check-driven k words h j l = not-false _ (passes_none k (λ j. not (driven words j)) h j l)

pub driven-check : (k : ℕ) (words : List ℕ) → AllDriven k words → (undriven_check k words).holds ≡ false
unfolding undriven
driven-check k words d = none_passes k (λ j. not (driven words j)) (λ j l. ap not (d j l))

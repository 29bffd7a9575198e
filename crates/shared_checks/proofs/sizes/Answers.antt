-- `shared_checks::sizes` meets its contract: three checks in their order. Assumes nothing.
use mathlib.Core.Path.{refl, ap, ◌∙◌}
use mathlib.Core.Bool.{Bool}
use mathlib.Core.List.{[], ◌∷◌}
use Rattle.block.specs.Refusals.{check, verdict}
use Rattle.refusal_laws.specs.Verdicts.{asked-where}
use Rattle.shared_checks.proofs.sizes.Goals as goal

pub returns : goal.returns
returns c =
    let one =
    c.refuse_where-inputs.ensures ∙ ap (λ (b : Bool). verdict (check b 1 0 0 ∷ [])) c.is_outside.ensures in
    let two =
    asked-where _ _ 2 0 0 _ (record { numbered = (refl, tt); told = one }) refl c.then_where-columns.ensures
    (λ h. c.is_outside-2.ensures) in
    (asked-where _ _ 3 0 0 _ two refl c.then_where.ensures (λ h. c.is_outside-3.ensures)).told

-- `row_checks::then_count` meets its contract: one check, by the number of rows. Assumes nothing.
use mathlib.Core.List.{[]}
use mathlib.Core.Path.{ap, ◌∙◌}
use mathlib.Core.Bool.{Bool}
use mathlib.Core.List.{◌∷◌}
use Rattle.block.specs.Refusals.{check, verdict, and_then, outside}
use Rattle.row_checks.proofs.then_count.Goals as goal

pub returns : goal.returns
returns c =
    let a = c.args in
    let many = c.is_outside.ensures ∙ ap (outside 1 a.most) c.row_count-count.ensures in
    c.then_where.ensures ∙ ap (λ (b : Bool). and_then a.v (verdict (check b 4 0 0 ∷ []))) many

-- `shared_checks::then_where` meets its contract: the earlier refusal, or the check's answer. Assumes nothing.
use mathlib.Core.Path.{◌∙◌}
use Rattle.refusal_laws.specs.Verdicts.{then-refused, then-answered}
use Rattle.shared_checks.proofs.then_where.Goals as goal

pub returns-then-v-ne0 : goal.returns-then-v-ne0
returns-then-v-ne0 c = then-refused _ _ c.if-v-ne0.true

pub returns : goal.returns
returns c = c.refuse_where.ensures ∙ then-answered _ _ c.if-v-ne0.false

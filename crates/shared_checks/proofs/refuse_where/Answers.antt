-- `shared_checks::refuse_where` meets its contract: a list of one check. Assumes nothing.
use mathlib.Core.Path.{sym, ◌∙◌}
use Rattle.refusal_laws.specs.Verdicts.{verdict-hit, verdict-miss, verdict-none}
use Rattle.shared_checks.proofs.refuse_where.Goals as goal

pub returns-then-holds : goal.returns-then-holds
returns-then-holds c = c.refuse.ensures ∙ sym (verdict-hit _ _ c.if-holds.true)

pub returns-else-holds : goal.returns-else-holds
returns-else-holds c = c.refuse-else-holds.ensures ∙ sym (verdict-miss _ _ c.if-holds.false ∙ verdict-none)

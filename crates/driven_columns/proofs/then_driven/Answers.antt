-- `driven_columns::then_driven` meets its contract: the earlier refusal, or the answer of 11. Assumes nothing.
use mathlib.Core.Path.{◌∙◌}
use native.Mathlib.Omega.{arith}
use Rattle.refusal_laws.specs.Verdicts.{then-refused, then-answered}
use Rattle.driven_columns.proofs.then_driven.Goals as goal

pub returns-then-v-ne0 : goal.returns-then-v-ne0
returns-then-v-ne0 c = then-refused _ _ (λ e. omega (arith, c.if-v-ne0.true))

pub undriven_in-j-requires : goal.undriven_in-j-requires
undriven_in-j-requires c = c.requires (omega (arith, c.if-v-ne0.false))

pub returns : goal.returns
returns c = rw (← c.undriven_in-j.ensures) (c.refuse_where.ensures ∙ then-answered _ _ c.if-v-ne0.false)

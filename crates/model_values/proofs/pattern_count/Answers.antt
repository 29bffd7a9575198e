-- `model_values::pattern_count` meets its contract: slices of unequal length hold no pattern. Assumes nothing.
use mathlib.Core.Path.{sym}
use Rattle.model_values.specs.Checks.{flat-count, flat-none}
use Rattle.model_values.proofs.pattern_count.Goals as goal

pub returns-then-values-masks : goal.returns-then-values-masks
returns-then-values-masks c = sym (flat-none _ _ c.if-values-masks.true)

pub returns : goal.returns
returns c = sym (flat-count _ _ c.if-values-masks.false)

-- `reason_numbers::in_numbers` meets its contract, by the two cases of an answer. Assumes nothing.
use mathlib.Core.Path.{sym, ap, ◌∙◌}
use Rattle.block.specs.Reasons.{why_numbers}
use Rattle.reason_numbers.proofs.in_numbers.Goals as goal

pub returns-in-Ok : goal.returns-in-Ok
returns-in-Ok c = c.given_numbers.ensures ∙ sym (ap why_numbers c.in-Ok.is)

pub returns-in-Err : goal.returns-in-Err
returns-in-Err c = sym (ap why_numbers c.in-Err.is)

-- `read_names::read_line` meets its contract: the line is met at the place, or another one stands there. Assumes nothing.
use mathlib.Core.Path.{sym, ◌∙◌}
use native.Mathlib.Omega.{arith}
use Rattle.read_names.specs.Met.{lost-is}
use Rattle.read_names.specs.Fate.{Came, due-came, due-lost}
use Rattle.read_names.proofs.read_line.Goals as goal

pub returns-then-to : goal.returns-then-to
unfolding Came
returns-then-to c =
    let a = c.args in
    λ s. due-lost a.text.now (omega arith) a.at a.line.now s _ c.requires c.meet_bytes-to.ensures (c.if-to.true ∙ sym lost-is)

pub returns : goal.returns
unfolding Came
returns c =
    let a = c.args in
    λ s.
    due-came a.text.now (omega arith) a.at a.line.now s _ c.requires c.meet_bytes-to.ensures
    (λ w. c.if-to.false (w ∙ lost-is))

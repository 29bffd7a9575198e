-- `read_outputs::read_last` meets its contract: the last line is not there, something follows it, or the text ends. Assumes nothing.
use mathlib.Core.Path.{sym, ◌∙◌}
use native.Mathlib.Omega.{arith}
use Rattle.block.specs.Model.{spaced}
use Rattle.read_names.specs.Met.{lost-is}
use Rattle.read_outputs.specs.Outputs.{last_none, last-over, last-all}
use Rattle.read_outputs.proofs.read_last.Goals as goal

pub returns-then-end : goal.returns-then-end
unfolding spaced
returns-then-end c =
    let a = c.args in
    last_none a.text.now (omega arith) a.at a.count c.meet_bytes-end.result c.meet_bytes-end.ensures (c.if-end.true ∙ sym lost-is)

pub returns-then-end-text : goal.returns-then-end-text
unfolding spaced
returns-then-end-text c =
    let a = c.args in
    last-over a.text.now (omega arith) a.at a.count c.meet_bytes-end.result c.meet_bytes-end.ensures
    (λ w. c.if-end.false (w ∙ lost-is)) c.if-end-text.true

pub returns : goal.returns
unfolding spaced
returns c =
    let a = c.args in
    last-all a.text.now (omega arith) a.at a.count c.meet_bytes-end.result c.meet_bytes-end.ensures
    (λ w. c.if-end.false (w ∙ lost-is)) c.if-end-text.false

-- `read_chains::linked` meets its contract: each return is what the test says by the places on the way. Assumes nothing.
use mathlib.Core.Path.{sym, ◌∙◌}
use native.Mathlib.Omega.{arith}
use Rattle.read_names.specs.Met.{lost-is}
use Rattle.read_chains.specs.Chains.{linked-low, linked-ends, linked-over, linked-goes}
use Rattle.read_chains.proofs.linked.Goals as goal

pub returns-then-power-m : goal.returns-then-power-m
returns-then-power-m c =
    let a = c.args in
    linked-low a.text.now (omega arith) a.at a.n a.m a.i a.p a.b (rw c.power.ensures at c.if-power-m.true)

pub returns-then-meet_last : goal.returns-then-meet_last
returns-then-meet_last c =
    let a = c.args in
    linked-ends a.text.now (omega arith) a.at a.n a.m a.i a.p a.b
    (rw c.power.ensures at c.if-power-m.false)
    (λ d. c.if-meet_last.true (c.meet_last.ensures ∙ d ∙ lost-is))

pub returns-then-n-b : goal.returns-then-n-b
returns-then-n-b c =
    let a = c.args in
    linked-over a.text.now (omega arith) a.at a.n a.m a.i a.p a.b
    (rw c.power.ensures at c.if-power-m.false)
    (sym c.meet_last.ensures ∙ c.if-meet_last.false ∙ sym lost-is) (omega arith)

pub returns : goal.returns
returns c =
    let a = c.args in
    linked-goes a.text.now (omega arith) a.at a.n a.m a.i a.p a.b
    (rw c.power.ensures at c.if-power-m.false)
    (sym c.meet_last.ensures ∙ c.if-meet_last.false ∙ sym lost-is) (omega arith)
    c.meet_more.result c.meet_more.ensures

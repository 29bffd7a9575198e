use mathlib.Core.Path.{◌≡◌, sym, ◌∙◌}
use native.Mathlib.Omega.{arith}
use Rattle.slices.specs.Least.{first-is}
use Rattle.read_chains.specs.Chains.{linked_at}
use Rattle.read_chains.proofs.link_input.Goals as goal

pub returns-then-linked : goal.returns-then-linked
returns-then-linked c =
    let l = c.loop-b in
    let a = c.args in
    sym (first-is a.n (linked_at a.text.now a.at a.n a.m a.i a.p) l.b (omega arith) l.invariant (λ q. sym c.linked.ensures ∙ c.if-linked.true))

pub returns : goal.returns
returns c =
    let l = c.loop-b in
    let a = c.args in
    let e : l.b ≡ a.n = omega arith in
    sym (first-is a.n (linked_at a.text.now a.at a.n a.m a.i a.p) a.n (omega arith) (rw e at l.invariant) (λ q. absurd (omega arith)))

use mathlib.Core.Path.{◌≡◌, sym, ◌∙◌}
use Prim.Native.Nat.{◌-◌}
use native.Mathlib.Omega.{arith}
use Rattle.read_names.specs.Met.{lost-is}
use Rattle.read_outputs.specs.Outputs.{Ending, output-first, no_output, output-next, output-stop, output-last}
use Rattle.read_outputs.proofs.read_outputs.Goals as goal

pub returns-then-to : goal.returns-then-to
unfolding Ending
returns-then-to c =
    let a = c.args in
    no_output a.text.now (omega arith) a.n a.k a.at (sym c.meet_head-to.ensures ∙ c.if-to.true ∙ sym lost-is)

pub loop-j-init : goal.loop-j-init
loop-j-init c =
    let a = c.args in
    output-first a.text.now (omega arith) a.n a.k a.at a.counts.now a.masks.now a.values.now c.meet_head-to.result c.meet_head-to.ensures
    (λ w. c.if-to.false (w ∙ lost-is))

pub returns-then-to-2 : goal.returns-then-to-2
unfolding Ending
returns-then-to-2 c =
    let a = c.args in
    let r = c.read_output-p in
    output-stop a.text.now (omega arith) a.n a.k c.loop-j.invariant r.ensures.patterns_read r.ensures.text_value (omega arith)
    (sym c.meet_head-to-in-loop-j.ensures ∙ c.if-to-2.true ∙ sym lost-is)

pub loop-j-preserved : goal.loop-j-preserved
loop-j-preserved c =
    let a = c.args in
    let r = c.read_output-p in
    output-next a.text.now (omega arith) a.n a.k c.loop-j.invariant r.ensures.patterns_read r.ensures.text_value (omega arith) _ r.ensures.counts_after
    c.meet_head-to-in-loop-j.result c.meet_head-to-in-loop-j.ensures (λ w. c.if-to-2.false (w ∙ lost-is))

pub returns : goal.returns
returns c =
    let a = c.args in
    let r = c.read_output-p-2 in
    let e : c.loop-j.j ≡ a.k - 1 = omega arith in
    rw c.read_last.ensures
    (output-last a.text.now (omega arith) a.n a.k (rw e at c.loop-j.invariant) r.ensures.patterns_read r.ensures.text_value (omega arith) _ r.ensures.counts_after)

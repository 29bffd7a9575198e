-- `read_model::read_inputs_line` meets its contract: the number of names on the line, and then the outputs' line. Assumes nothing.
use mathlib.Core.Path.{refl}
use Prim.Native.Nat.{◌≤◌}
use native.Mathlib.Omega.{arith}
use Rattle.block.specs.Text.{every}
use Rattle.block.specs.ModelRead.{InputsDue, OutputsDue}
use Rattle.read_model.specs.Whole.{named_none, named_some, named-next, inputs-due, Inlined, out-in}
use Rattle.block.specs.Covers.{inputs_word}
use Rattle.read_model.proofs.read_inputs_line.Goals as goal

pub returns-then-n-gt-LIST_INPUTS : goal.returns-then-n-gt-LIST_INPUTS
unfolding Inlined every
returns-then-n-gt-LIST_INPUTS c =
    let a = c.args in
    named_none a.text.now (omega arith) a.at inputs_word 120 refl refl 16 InputsDue (λ n. OutputsDue n) inputs-due c.named-n.result c.named-n.ensures c.if-n-gt-LIST_INPUTS.true

pub read_outputs_line-requires : goal.read_outputs_line-requires
unfolding every
read_outputs_line-requires c =
    let a = c.args in
    let n = c.named-n in
    let l : n.result ≤ 16 = omega arith in
    (named_some a.text.now (omega arith) a.at inputs_word 120 refl refl 16 InputsDue (λ n. OutputsDue n) inputs-due n.result n.ensures l, l)

pub returns : goal.returns
unfolding every
returns c =
    let a = c.args in
    let n = c.named-n in
    let l : n.result ≤ 16 = omega arith in
    out-in a.text.now a.at c.meet_named-to.result n.result c.read_outputs_line.result
    (named_some a.text.now (omega arith) a.at inputs_word 120 refl refl 16 InputsDue (λ n. OutputsDue n) inputs-due n.result n.ensures l)
    l
    (named-next a.text.now (omega arith) a.at inputs_word 120 refl refl 16 InputsDue (λ n. OutputsDue n) inputs-due n.result n.ensures l
    c.meet_named-to.result c.meet_named-to.ensures)
    c.read_outputs_line.ensures

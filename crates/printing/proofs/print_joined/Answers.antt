-- `printing::print_joined` meets its contract: what the work of the text leaves is the joined rows, or the line of its refusal is put.
-- Assumes nothing.
use mathlib.Core.Path.{ap}
use native.Mathlib.Omega.{arith}
use Rattle.block.specs.Refusals.{answer}
use Rattle.block.specs.declared.TextAnswer.{TextAnswer}
use Rattle.put_refusal.specs.Length.{refusal-le}
use Rattle.join_text_work.specs.Work.{join_in_verdict, join_in}
use Rattle.printing.specs.Printed.{printed-join-by, line-printed, text-printed}
use Rattle.printing.proofs.print_joined.Goals as goal

pub put_refusal-requires : goal.put_refusal-requires
put_refusal-requires c =
    let r = c.join_text-j.result in
    omega (arith, refusal-le (answer r.number r.a r.b))

pub returns-then-j-ne0 : goal.returns-then-j-ne0
returns-then-j-ne0 c =
    let a = c.args in
    let e = c.join_text-j.ensures in
    let said = ap (λ (x : TextAnswer). answer x.number x.a x.b) e.value in
    let p =
    line-printed (join_in_verdict a.input.now) (join_in a.input.now) a.out.now _ e.out_after _ _ _ said _ _ _
    (printed-join-by a.input.now) c.if-j-ne0.true (omega arith) c.put_refusal.ensures in
    record { text = p.0; bytes = p.1 }

pub returns : goal.returns
returns c =
    let a = c.args in
    let e = c.join_text-j.ensures in
    let said = ap (λ (x : TextAnswer). answer x.number x.a x.b) e.value in
    let p =
    text-printed (join_in_verdict a.input.now) (join_in a.input.now) a.out.now _ e.out_after _ _ _ said _ _
    (printed-join-by a.input.now) c.if-j-ne0.false (ap (λ (x : TextAnswer). x.count) e.value) in
    record { text = p.0; bytes = p.1 }

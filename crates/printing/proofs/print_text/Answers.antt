-- `printing::print_text` meets its contract: what the work of the text leaves is the sheet, or the line of its refusal is put.
-- Assumes nothing.
use mathlib.Core.Path.{ap}
use native.Mathlib.Omega.{arith}
use Rattle.block.specs.Refusals.{answer}
use Rattle.block.specs.declared.SheetWork.{SheetWork}
use Rattle.put_refusal.specs.Length.{refusal-le}
use Rattle.text_work.specs.Work.{text_verdict, sheet_in, text_work}
use Rattle.printing.specs.Printed.{printed-by, line-printed, text-printed}
use Rattle.printing.proofs.print_text.Goals as goal

pub put_refusal-requires : goal.put_refusal-requires
put_refusal-requires c =
    let r = c.work_text-r.result in
    omega (arith, refusal-le (answer r.number r.a r.b))

pub returns-then-r-ne0 : goal.returns-then-r-ne0
unfolding text_work
returns-then-r-ne0 c =
    let a = c.args in
    let e = c.work_text-r.ensures in
    let said = ap (λ (x : SheetWork). answer x.number x.a x.b) e.value in
    let p =
    line-printed (text_verdict a.input.now) (sheet_in a.input.now) a.out.now _ e.out_after _ _ _ said _ _ _
    (printed-by a.input.now) c.if-r-ne0.true (omega arith) c.put_refusal.ensures in
    record { text = p.0; bytes = p.1 }

pub returns : goal.returns
unfolding text_work
returns c =
    let a = c.args in
    let e = c.work_text-r.ensures in
    let said = ap (λ (x : SheetWork). answer x.number x.a x.b) e.value in
    let p =
    text-printed (text_verdict a.input.now) (sheet_in a.input.now) a.out.now _ e.out_after _ _ _ said _ _
    (printed-by a.input.now) c.if-r-ne0.false (ap (λ (x : SheetWork). x.count) e.value) in
    record { text = p.0; bytes = p.1 }

-- `model_reading::model_answer` meets its contract: 10 where the reading stops, and else what the rows and the rooms say. Assumes nothing.
use mathlib.Core.Path.{sym, ap, ◌∙◌}
use mathlib.Core.List.{List}
use Prim.Native.Nat.{ℕ}
use native.Mathlib.Omega.{arith}
use lib.ListN.{length}
use Rattle.read_model.specs.Whole.{Modelled}
use Rattle.model_reading.specs.Reading.{rest_checks, broken-told, read_told, rows-front}
use Rattle.block.specs.Refusals.{verdict}
use Rattle.block.specs.ModelRead.{with_model}
use Rattle.model_reading.proofs.model_answer.Goals as goal

pub slice_bounds-rows-end : goal.slice_bounds-rows-end
unfolding Modelled
slice_bounds-rows-end c =
    let h = rw c.in-Ok.is at c.read_model.ensures in
    omega (arith, h.inputs, c.read_model.auto.matrix)

pub slice_bounds-rest_answer-end : goal.slice_bounds-rest_answer-end
unfolding Modelled
slice_bounds-rest_answer-end c =
    let h = rw c.in-Ok.is at c.read_model.ensures in
    sym (ap length (rows-front h h.inputs) ∙ h.rows)

pub rest_answer-requires : goal.rest_answer-requires
unfolding Modelled
rest_answer-requires c =
    let h = rw c.in-Ok.is at c.read_model.ensures in
    let e = rows-front h h.inputs in
    (h.inputs, omega (arith, ap length e, h.rows), λ j l. rw e (h.small j l))

pub returns-in-Err : goal.returns-in-Err
unfolding Modelled
returns-in-Err c =
    let a = c.args in
    broken-told a.text.now a.matrix_room a.counts_room a.patterns_room c.in-Err.bad c.lines_before.result
    (rw c.in-Err.is at c.read_model.ensures) c.lines_before.ensures.value

pub returns-in-Ok : goal.returns-in-Ok
unfolding Modelled
returns-in-Ok c =
    let a = c.args in
    let h = rw c.in-Ok.is at c.read_model.ensures in
    let n = c.in-Ok.n in
    let k = c.in-Ok.k in
    let t = c.in-Ok.patterns in
    c.rest_answer.ensures
    ∙ ap (λ (x : List ℕ). with_model (verdict (rest_checks a.matrix_room a.counts_room a.patterns_room n k t x)) n k t) (rows-front h h.inputs)
    ∙ read_told a.text.now a.matrix_room a.counts_room a.patterns_room h

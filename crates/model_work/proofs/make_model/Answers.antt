-- `model_work::make_model` meets its contract. A refusal of the row method is the writing's, and leaves the slice alone; on 0 the text
-- is put from working storage, or the room is below its length. Assumes nothing.
use native.Mathlib.Omega.{arith}
use lib.ListN.{length-take}
use Rattle.model_work.specs.Made.{model-refused, model-inputs, model-ready, model-short, model-written}
use Rattle.model_work.proofs.make_model.Goals as goal

pub returns-then-r-ne0 : goal.returns-then-r-ne0
returns-then-r-ne0 c =
    let whole = model-refused c.args.out.now c.method_rows-r.ensures c.if-r-ne0.true in
    record { result_value = whole.0; out_after = whole.1 }

pub slice_bounds-sigma-end : goal.slice_bounds-sigma-end
slice_bounds-sigma-end c =
    omega (arith, model-inputs c.args.out.now c.method_rows-r.ensures c.if-r-ne0.false)

pub slice_bounds-put_model-end : goal.slice_bounds-put_model-end
slice_bounds-put_model-end c =
    simp length-take (omega (arith, model-inputs c.args.out.now c.method_rows-r.ensures c.if-r-ne0.false))

pub put_model-count-requires-clause-n_bound : goal.put_model-count-requires-clause-n_bound
put_model-count-requires-clause-n_bound c =
    let g = c.method_rows-r.ensures in
    let h = c.if-r-ne0.false in
    model-ready c.args.out.now g h (omega (arith, model-inputs c.args.out.now g h))

pub returns-then-room-count : goal.returns-then-room-count
returns-then-room-count c =
    let p = c.put_model-count.ensures in
    let whole =
    model-short c.args.out.now c.method_rows-r.ensures c.if-r-ne0.false _ _ p.result_value p.out_after (omega arith) in
    record { result_value = whole.0; out_after = whole.1 }

pub returns : goal.returns
returns c =
    let p = c.put_model-count.ensures in
    let whole =
    model-written c.args.out.now c.method_rows-r.ensures c.if-r-ne0.false _ _ p.result_value p.out_after (omega arith) in
    record { result_value = whole.0; out_after = whole.1 }

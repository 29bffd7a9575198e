-- `model_text_work::model_rows` meets its contract: by the writing of the list that the first rows are, with the weight limit. Assumes
-- nothing.
use native.Mathlib.Omega.{arith}
use lib.ListN.{length-take}
use borrow.Author.Rules.{rules}
use Rattle.model_text_work.proofs.model_rows.Goals as goal

pub slice_bounds-make_model-end : goal.slice_bounds-make_model-end
slice_bounds-make_model-end c = simp length-take (omega arith)

pub slice_bounds-make_model-end-2 : goal.slice_bounds-make_model-end-2
slice_bounds-make_model-end-2 c = simp length-take (omega arith)

pub slice_bounds-make_model-end-3 : goal.slice_bounds-make_model-end-3
slice_bounds-make_model-end-3 c = simp length-take (omega arith)

pub returns : goal.returns
returns c =
    let e = c.make_model.ensures in
    record { result_value = rw (← c.weight_limit-w.ensures) e.result_value; out_after = rw (← c.weight_limit-w.ensures) e.out_after }

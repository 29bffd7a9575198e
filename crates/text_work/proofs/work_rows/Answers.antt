-- `text_work::work_rows` meets its contract: by the work of the list that the first rows are. Assumes nothing.
use native.Mathlib.Omega.{arith}
use lib.ListN.{length-take}
use Rattle.text_work.proofs.work_rows.Goals as goal

pub slice_bounds-work_list-end : goal.slice_bounds-work_list-end
slice_bounds-work_list-end c = simp length-take (omega arith)

pub slice_bounds-work_list-end-2 : goal.slice_bounds-work_list-end-2
slice_bounds-work_list-end-2 c = simp length-take (omega arith)

pub slice_bounds-work_list-end-3 : goal.slice_bounds-work_list-end-3
slice_bounds-work_list-end-3 c = simp length-take (omega arith)

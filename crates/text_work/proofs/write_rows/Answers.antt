-- `text_work::write_rows` meets its contract: by the writing of the list that the first rows are. Assumes nothing.
use native.Mathlib.Omega.{arith}
use lib.ListN.{length-take}
use Rattle.text_work.proofs.write_rows.Goals as goal

pub slice_bounds-write_text-end : goal.slice_bounds-write_text-end
slice_bounds-write_text-end c = simp length-take (omega arith)

pub slice_bounds-write_text-end-2 : goal.slice_bounds-write_text-end-2
slice_bounds-write_text-end-2 c = simp length-take (omega arith)

pub slice_bounds-write_text-end-3 : goal.slice_bounds-write_text-end-3
slice_bounds-write_text-end-3 c = simp length-take (omega arith)

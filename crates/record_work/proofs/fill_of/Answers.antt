-- `record_work::fill_of` meets its contract: the first m entries of each array are lent to the operation on flat slices. Assumes nothing.
use native.Mathlib.Omega.{arith}
use lib.ListN.{length-take}
use Rattle.record_work.proofs.fill_of.Goals as goal

pub slice_bounds-fill_table-end : goal.slice_bounds-fill_table-end
slice_bounds-fill_table-end c = simp length-take (omega arith)

pub slice_bounds-fill_table-end-2 : goal.slice_bounds-fill_table-end-2
slice_bounds-fill_table-end-2 c = simp length-take (omega arith)

pub slice_bounds-fill_table-end-3 : goal.slice_bounds-fill_table-end-3
slice_bounds-fill_table-end-3 c = simp length-take (omega arith)

pub returns : goal.returns
returns c = c.fill_table.ensures

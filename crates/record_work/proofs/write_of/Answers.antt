-- `record_work::write_of` meets its contract: the first m entries of each array are lent to the operation on flat slices. Assumes nothing.
use native.Mathlib.Omega.{arith}
use lib.ListN.{length-take}
use Rattle.record_work.proofs.write_of.Goals as goal

pub slice_bounds-write_text-end : goal.slice_bounds-write_text-end
slice_bounds-write_text-end c = simp length-take (omega arith)

pub slice_bounds-write_text-end-2 : goal.slice_bounds-write_text-end-2
slice_bounds-write_text-end-2 c = simp length-take (omega arith)

pub slice_bounds-write_text-end-3 : goal.slice_bounds-write_text-end-3
slice_bounds-write_text-end-3 c = simp length-take (omega arith)

pub returns : goal.returns
returns c = c.write_text.ensures

-- `record_reasons::why_of` meets its contract: the first m entries of each array are lent to the operation on flat slices. Assumes nothing.
use native.Mathlib.Omega.{arith}
use lib.ListN.{length-take}
use Rattle.record_reasons.proofs.why_of.Goals as goal

pub slice_bounds-why_not-end : goal.slice_bounds-why_not-end
slice_bounds-why_not-end c = simp length-take (omega arith)

pub slice_bounds-why_not-end-2 : goal.slice_bounds-why_not-end-2
slice_bounds-why_not-end-2 c = simp length-take (omega arith)

pub slice_bounds-why_not-end-3 : goal.slice_bounds-why_not-end-3
slice_bounds-why_not-end-3 c = simp length-take (omega arith)

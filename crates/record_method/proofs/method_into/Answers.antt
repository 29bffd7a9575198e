-- `record_method::method_into` meets its contract: the first places of each array are lent to the operation on flat slices, and what it stores
-- there are the smaller rows. Assumes nothing.
use native.Mathlib.Omega.{arith}
use lib.ListN.{length-take}
use Rattle.record_copies.specs.Flat.{listed}
use Rattle.record_method.specs.Method.{method-yields}
use Rattle.record_method.proofs.method_into.Goals as goal

pub slice_bounds-row_method-end : goal.slice_bounds-row_method-end
slice_bounds-row_method-end c = simp length-take (omega arith)

pub slice_bounds-row_method-end-2 : goal.slice_bounds-row_method-end-2
slice_bounds-row_method-end-2 c = simp length-take (omega arith)

pub slice_bounds-row_method-end-3 : goal.slice_bounds-row_method-end-3
slice_bounds-row_method-end-3 c = simp length-take (omega arith)

pub slice_bounds-row_method-end-4 : goal.slice_bounds-row_method-end-4
slice_bounds-row_method-end-4 c = simp length-take (omega arith)

pub slice_bounds-row_method-end-5 : goal.slice_bounds-row_method-end-5
slice_bounds-row_method-end-5 c = simp length-take (omega arith)

pub slice_bounds-row_method-end-6 : goal.slice_bounds-row_method-end-6
slice_bounds-row_method-end-6 c = simp length-take (omega arith)

pub returns : goal.returns
returns c =
    let arg = c.args in
    let done = c.row_method-answer in
    method-yields arg.n arg.k arg.block_type arg.w (listed arg.flat arg.m) arg.basis.now arg.sigma.now done.result _ _ arg.room
    arg.smaller _ _ _ c.requires.2 c.requires.3 done.ensures

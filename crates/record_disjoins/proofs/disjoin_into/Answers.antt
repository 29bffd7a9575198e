-- `record_disjoins::disjoin_into` meets its contract: the first places of each array are lent to the operation on flat slices, and what it stores
-- there are the disjoint rows. Assumes nothing.
use native.Mathlib.Omega.{arith}
use lib.ListN.{length-take}
use Rattle.record_copies.specs.Flat.{listed}
use Rattle.record_disjoins.specs.Disjoined.{disjoin-yields}
use Rattle.record_disjoins.proofs.disjoin_into.Goals as goal

pub slice_bounds-disjoin_rows-end : goal.slice_bounds-disjoin_rows-end
slice_bounds-disjoin_rows-end c = simp length-take (omega arith)

pub slice_bounds-disjoin_rows-end-2 : goal.slice_bounds-disjoin_rows-end-2
slice_bounds-disjoin_rows-end-2 c = simp length-take (omega arith)

pub slice_bounds-disjoin_rows-end-3 : goal.slice_bounds-disjoin_rows-end-3
slice_bounds-disjoin_rows-end-3 c = simp length-take (omega arith)

pub slice_bounds-disjoin_rows-end-4 : goal.slice_bounds-disjoin_rows-end-4
slice_bounds-disjoin_rows-end-4 c = simp length-take (omega arith)

pub slice_bounds-disjoin_rows-end-5 : goal.slice_bounds-disjoin_rows-end-5
slice_bounds-disjoin_rows-end-5 c = simp length-take (omega arith)

pub slice_bounds-disjoin_rows-end-6 : goal.slice_bounds-disjoin_rows-end-6
slice_bounds-disjoin_rows-end-6 c = simp length-take (omega arith)

pub returns : goal.returns
returns c =
    let arg = c.args in
    let done = c.disjoin_rows-answer in
    disjoin-yields arg.n arg.k (listed arg.flat arg.m) done.result arg.room arg.disjoint _ _ _ c.requires.2 c.requires.3
    done.ensures

-- `record_joins::join_of` meets its contract: the first m places of each array are lent to the operation on flat slices, which joins the rows
-- there. Assumes nothing.
use native.Mathlib.Omega.{arith}
use lib.ListN.{length-take}
use borrow.Author.Rules.{rules}
use Rattle.record_joins.specs.Joined.{join-yields}
use Rattle.record_joins.proofs.join_of.Goals as goal

pub slice_bounds-join_rows-end : goal.slice_bounds-join_rows-end
slice_bounds-join_rows-end c = simp length-take (omega arith)

pub slice_bounds-join_rows-end-2 : goal.slice_bounds-join_rows-end-2
slice_bounds-join_rows-end-2 c = simp length-take (omega arith)

pub slice_bounds-join_rows-end-3 : goal.slice_bounds-join_rows-end-3
slice_bounds-join_rows-end-3 c = simp length-take (omega arith)

pub returns : goal.returns
returns c =
    let arg = c.args in
    let done = c.join_rows-answer in
    join-yields arg.n arg.k arg.m arg.flat _ _ _ done.result _ c.requires.0 c.requires.1 c.records_due.ensures done.ensures

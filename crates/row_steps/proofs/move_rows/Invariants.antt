-- `row_steps::move_rows` meets its contract. The loop's invariant: the matrix is the one reached by the first k columns, and the slices
-- hold the rows after k steps, of which there are no more than a smaller block may have. Assumes nothing.
use mathlib.Core.Path.{◌≡◌}
use Prim.Native.Nat.{◌≤◌}
use Rattle.slices.specs.Places.{at, tab, over}
use Rattle.block.specs.Limits.{smaller_rows}
use Rattle.block.specs.Rows.{moved}
use Rattle.flat_rows.specs.Listing.{rows_from}
use Rattle.matrix_laws.specs.Reach.{reach_rows}
use Rattle.row_steps.proofs.move_rows.Given as goal

abbrev pub invariant-loop-k : goal.invariant-loop-k
invariant-loop-k l = (l.count ≤ smaller_rows) × (l.s ≡ over (tab l.n (reach_rows l.n (at l.basis) l.k)) l.initial.s)
    × (rows_from l.count l.masks l.values l.words ≡ moved l.n (at l.basis) l.k (rows_from l.p l.initial.masks l.initial.values l.initial.words))

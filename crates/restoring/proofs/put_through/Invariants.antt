-- `restoring::put_through` meets its contract: the matrix's values are listed first. The loop's invariant: the first z entries are
-- done. Assumes nothing.
use mathlib.Core.Path.{◌≡◌}
use Rattle.slices.specs.Places.{at, tab, over}
use Rattle.block.specs.Words.{of_table}
use Rattle.block.specs.Basis.{columns}
use Rattle.restoring.proofs.put_through.Given as goal

abbrev pub invariant-loop-z : goal.invariant-loop-z
invariant-loop-z l = l.out ≡ over (tab l.z (λ z. of_table l.table (columns (at l.by_columns) l.n z))) l.initial.out

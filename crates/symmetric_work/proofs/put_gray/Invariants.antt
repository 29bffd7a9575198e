-- `symmetric_work::put_gray` meets its contract. The loop's invariant: the first z entries are stored, and from there on T is still there.
-- Assumes nothing.
use Rattle.std.proofs.Common.{◌≡◌}
use Rattle.slices.specs.Places.{tab, over}
use Rattle.block.specs.Words.{of_table}
use Rattle.block.specs.Basis.{smaller}
use Rattle.block.specs.Symmetric.{gray_column}
use Rattle.symmetric_work.proofs.put_gray.Given as goal

abbrev pub invariant-loop-z : goal.invariant-loop-z
invariant-loop-z l = l.out ≡ over (tab l.z (smaller (of_table l.table) gray_column l.n)) l.initial.out

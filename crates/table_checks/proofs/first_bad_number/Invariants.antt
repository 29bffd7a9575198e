-- `table_checks::first_bad_number` meets its contract. The loop's invariant: no matrix row before i is malformed. Assumes nothing.
use lib.ListN.{length}
use Rattle.slices.specs.Places.{at}
use Rattle.block.specs.Refusals.{bad_number}
use Rattle.table_checks.specs.Search.{Searched}
use Rattle.table_checks.proofs.first_bad_number.Given as goal

abbrev pub invariant-loop-i : goal.invariant-loop-i
invariant-loop-i l = Searched (λ j. bad_number l.n (at l.rows j)) (length l.rows) l.i

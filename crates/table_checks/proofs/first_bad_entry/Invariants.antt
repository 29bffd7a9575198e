-- `table_checks::first_bad_entry` meets its contract. The loop's invariant: no entry before i is malformed. Assumes nothing.
use lib.ListN.{length}
use Rattle.slices.specs.Places.{at}
use Rattle.block.specs.Refusals.{bad_entry}
use Rattle.table_checks.specs.Search.{Searched}
use Rattle.table_checks.proofs.first_bad_entry.Given as goal

abbrev pub invariant-loop-i : goal.invariant-loop-i
invariant-loop-i l = Searched (λ j. bad_entry l.missing l.k (at l.table j)) (length l.table) l.i

-- `model_values::first_bad_pattern` meets its contract. The loop's invariant: no pattern passed is malformed. Assumes nothing.
use Rattle.table_checks.specs.Search.{Searched}
use Rattle.model_values.specs.Checks.{bad_at}
use Rattle.model_values.proofs.first_bad_pattern.Given as goal

abbrev pub invariant-loop-i : goal.invariant-loop-i
invariant-loop-i l = Searched (bad_at l.n l.masks l.values) l.count l.i

-- `model_values::first_driving` meets its contract. The loop's invariant: z lies under no pattern passed. Assumes nothing.
use Rattle.std.proofs.Common.{◌+◌}
use Rattle.table_checks.specs.Search.{Searched}
use Rattle.model_values.specs.Driven.{driven_at}
use Rattle.model_values.proofs.first_driving.Given as goal

abbrev pub invariant-loop-i : goal.invariant-loop-i
invariant-loop-i l = Searched (λ j. driven_at l.masks l.values l.z (l.from + j)) l.count l.i

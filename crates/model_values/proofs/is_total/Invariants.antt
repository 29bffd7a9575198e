-- `model_values::is_total` meets its contract. The loop's invariant: the counts passed and what is left are the number of patterns. Assumes
-- nothing.
use Rattle.std.proofs.Common.{◌≡◌, ◌+◌}
use Rattle.model_values.specs.Driven.{begun}
use Rattle.model_values.proofs.is_total.Given as goal

abbrev pub invariant-loop-c : goal.invariant-loop-c
invariant-loop-c l = begun l.counts l.c-index + l.rest ≡ l.count

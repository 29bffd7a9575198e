-- `put_names::emit_names` meets its contract. The loop's invariant: the first i names are put, each with at most four bytes. Assumes
-- nothing.
use Rattle.std.proofs.Common.{◌+◌, ◌*◌, ◌≤◌}
use Rattle.slices.specs.Places.{tab}
use Rattle.block.specs.Model.{spaced}
use Rattle.put_names.specs.Fitting.{Fitted}
use Rattle.model_laws.specs.Spaced.{lettered}
use Rattle.put_names.proofs.emit_names.Given as goal

abbrev pub invariant-loop-i : goal.invariant-loop-i
invariant-loop-i l = (l.to ≤ l.at + l.i * 4) × Fitted l.initial.out l.at (spaced (tab l.i (lettered l.letter))) l.out l.to

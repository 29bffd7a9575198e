-- `read_names::meet_names` meets its contract. The loop's invariant: the place is that after the names passed. Assumes nothing.
use mathlib.Core.Path.{◌≡◌}
use Rattle.slices.specs.Places.{tab}
use Rattle.block.specs.Model.{spaced}
use Rattle.model_laws.specs.Spaced.{lettered}
use Rattle.read_names.specs.Met.{met_at}
use Rattle.read_names.proofs.meet_names.Given as goal

abbrev pub invariant-loop-i : goal.invariant-loop-i
invariant-loop-i l = l.to ≡ met_at l.text l.at (spaced (tab l.i (lettered l.letter)))

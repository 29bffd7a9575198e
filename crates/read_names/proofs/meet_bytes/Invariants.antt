-- `read_names::meet_bytes` meets its contract. The loop's invariant: the place is that after the bytes passed. Assumes nothing.
use mathlib.Core.Path.{◌≡◌}
use lib.ListN.{take}
use Rattle.read_names.specs.Met.{met_at}
use Rattle.read_names.proofs.meet_bytes.Given as goal

abbrev pub invariant-loop-b : goal.invariant-loop-b
invariant-loop-b l = l.to ≡ met_at l.text l.at (take l.b-index l.s)

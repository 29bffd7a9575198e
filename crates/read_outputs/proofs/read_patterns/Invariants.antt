-- `read_outputs::read_patterns` meets its contract. The loop's invariant: the patterns passed have been read and stored where they fit. The
-- measure is what is left of the text. Assumes nothing.
use Prim.Native.Nat.{◌-◌}
use lib.ListN.{length}
use Rattle.read_outputs.specs.Outputs.{PatternsRead}
use Rattle.read_outputs.proofs.read_patterns.Given as goal

abbrev pub invariant-loop-m : goal.invariant-loop-m
invariant-loop-m l = PatternsRead l.text l.n l.at l.count l.initial.masks l.initial.values l.to l.total l.masks l.values

abbrev pub decreases-loop-m : goal.decreases-loop-m
decreases-loop-m l = length l.text - l.to

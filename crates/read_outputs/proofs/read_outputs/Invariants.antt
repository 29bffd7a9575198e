-- `read_outputs::read_outputs` meets its contract. The loop's invariant: the outputs passed have been read and stored where they fit, and the
-- next one's line stands before the place. Assumes nothing.
use Rattle.read_outputs.specs.Outputs.{OutputsRead}
use Rattle.read_outputs.proofs.read_outputs.Given as goal

abbrev pub invariant-loop-j : goal.invariant-loop-j
invariant-loop-j l = OutputsRead l.text l.n l.k l.at l.initial.counts l.initial.masks l.initial.values l.j l.to l.count l.counts l.masks l.values

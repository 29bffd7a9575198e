-- `read_sigma::read_rows` meets its contract. The loop's invariant: the rows passed have been read, and are stored where they fit. Assumes
-- nothing.
use Rattle.read_sigma.specs.Rows.{SoFar}
use Rattle.read_sigma.proofs.read_rows.Given as goal

abbrev pub invariant-loop-i : goal.invariant-loop-i
invariant-loop-i l = SoFar l.text l.n l.at l.initial.sigma l.i l.to l.sigma

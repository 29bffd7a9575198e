-- `read_headings::stands_at` meets its contract. The loop's invariant: the first i bytes of the line stand there. Assumes nothing.
use Rattle.read_laws.specs.TypeLines.{StandsTo}
use Rattle.read_headings.proofs.stands_at.Given as goal

abbrev pub invariant-loop-i : goal.invariant-loop-i
invariant-loop-i l = StandsTo l.s l.from l.line l.i

-- `walks::next_place` meets its contract, which is the loop's invariant. Assumes nothing.
use Rattle.walks.specs.Next.{NextPlace}
use Rattle.walks.proofs.next_place.Given as goal

abbrev pub invariant-loop-place : goal.invariant-loop-place
invariant-loop-place l = NextPlace l.values l.from l.count l.top l.place

-- `light_adding::add_ones` meets its contract. The loop's invariant: the array is raised as often as a number comes out with one of the first
-- k flipped. Assumes nothing.
use Rattle.light_laws.specs.Ways.{ways}
use Rattle.light_adding.specs.Raised.{Since, here}
use Rattle.light_adding.proofs.add_ones.Given as goal

abbrev pub invariant-loop-k : goal.invariant-loop-k
invariant-loop-k l = Since l.weight (here l.b) (ways 1 l.ps l.k l.b) l.initial.acc l.acc

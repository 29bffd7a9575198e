-- `light_adding::put_free` meets its contract. The loop's invariant: the free inputs below i stand at the front. Assumes
-- nothing.
use Rattle.slices.specs.Laid.{Laid}
use Rattle.light_laws.specs.Ways.{frees}
use Rattle.light_adding.proofs.put_free.Given as goal

abbrev pub invariant-loop-i : goal.invariant-loop-i
invariant-loop-i l = Laid (frees l.mask l.i) l.initial.out l.out l.count

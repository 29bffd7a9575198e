-- `walsh::cross_quads` meets its contract. The loop's invariant: the first b blocks are done. Assumes nothing.
use Rattle.walsh_laws.specs.Passes.{PassedTwice}
use Rattle.walsh.proofs.cross_quads.Given as goal

abbrev pub invariant-loop-b : goal.invariant-loop-b
invariant-loop-b l = PassedTwice l.initial.s l.s l.h l.b

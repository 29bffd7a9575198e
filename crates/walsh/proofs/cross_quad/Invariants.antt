-- `walsh::cross_quad` meets its contract. The loop's invariant: the first j fours of the block have gone through both stages. Assumes nothing.
use Rattle.walsh_laws.specs.Passes.{CrossedTwice}
use Rattle.walsh.proofs.cross_quad.Given as goal

abbrev pub invariant-loop-j : goal.invariant-loop-j
invariant-loop-j l = CrossedTwice l.initial.s l.s l.at l.h l.j

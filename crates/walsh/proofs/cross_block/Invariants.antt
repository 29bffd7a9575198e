-- `walsh::cross_block` meets its contract. The loop's invariant: the first j butterflies are done.
use Rattle.walsh_laws.specs.Passes.{Crossed}
use Rattle.walsh.proofs.cross_block.Given as goal

abbrev pub invariant-loop-j : goal.invariant-loop-j
invariant-loop-j l = Crossed l.initial.s l.s l.at l.h l.j

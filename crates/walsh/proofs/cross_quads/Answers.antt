use Rattle.walsh_laws.specs.Passes.{passed-twice-more}
use Rattle.walsh.proofs.cross_quads.Goals as goal
use Rattle.walsh.proofs.cross_quads.Goals.{In-loop-b}

pub loop-b-preserved : goal.loop-b-preserved
loop-b-preserved c = passed-twice-more _ _ _ _ _ c.loop-b.invariant c.cross_quad.ensures

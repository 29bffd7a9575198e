-- `candidates::stride` meets its contract: sixteen numbers where both tests hold, and else the one. Assumes nothing.
use Rattle.candidates.specs.Stride.{skips-sixteen}
use Rattle.candidates.proofs.stride.Goals as goal

pub returns-then-t-w : goal.returns-then-t-w
returns-then-t-w c = skips-sixteen _ _ c.if-t-eq0.true c.if-t-w.true

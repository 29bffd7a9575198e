use mathlib.Core.Path.{sym}
use native.Mathlib.Omega.{arith}
use borrow.Author.Count.{below_more}
use Rattle.symmetric_laws.specs.Words.{kept-symmetric}
use Rattle.symmetric_work.proofs.is_symmetric.Goals as goal

pub loop-k-preserved : goal.loop-k-preserved
loop-k-preserved c = below_more _ _ c.loop-k.invariant (c.is_unlike.ensures.none c.if-is_unlike.false)

pub returns : goal.returns
returns c = sym (kept-symmetric c.args.table.now c.args.n (λ k a h. c.loop-k.invariant k (omega arith) a))

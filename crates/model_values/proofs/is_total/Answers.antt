use Rattle.std.proofs.Common.{arith}
use Rattle.model_values.specs.Driven.{begun-none, begun_more, too_many, rest-none}
use Rattle.model_values.proofs.is_total.Goals as goal

pub loop-c-init : goal.loop-c-init
loop-c-init c = omega (arith, begun-none c.args.counts.now)

pub returns-then-rest-c : goal.returns-then-rest-c
returns-then-rest-c c =
    let l = c.loop-c in
    too_many c.args.counts.now _ _ l.c-index (omega arith) l.invariant c.if-rest-c.true

pub loop-c-preserved : goal.loop-c-preserved
loop-c-preserved c =
    let l = c.loop-c in
    omega (arith, begun_more c.args.counts.now l.c-index (omega arith))

pub returns : goal.returns
returns c = rest-none c.args.counts.now _ _ c.loop-c.c-index (omega arith) c.loop-c.invariant

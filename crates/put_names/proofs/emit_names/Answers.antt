use Rattle.std.proofs.Common.{◌≡◌, arith}
use Rattle.put_names.specs.Fitting.{next, none-fitted}
use Rattle.model_laws.specs.Spaced.{names_more, names-none}
use Rattle.put_names.proofs.emit_names.Goals as goal

pub loop-i-init : goal.loop-i-init
loop-i-init c = (omega arith, rw names-none (none-fitted _ _))

pub loop-i-preserved : goal.loop-i-preserved
loop-i-preserved c =
    (omega arith, rw names_more (next c.loop-i.invariant.1 (next c.emit-to.ensures.fitted c.emit_name-to.ensures.fitted)))

pub returns-clause-fitted : goal.returns-clause-fitted
returns-clause-fitted c =
    let e : c.loop-i.i ≡ c.args.n = omega arith in
    rw e at c.loop-i.invariant.1

use Rattle.std.proofs.Common.{◌≡◌, ℕ, get_or, arith}
use Rattle.put_names.specs.Fitting.{next, none-fitted}
use Rattle.put_chains.specs.Rows.{front-none, front-more}
use Rattle.put_chains.proofs.emit_front.Goals as goal

pub loop-i-init : goal.loop-i-init
loop-i-init c = (omega arith, rw front-none (none-fitted _ _))

pub emit_row-to-requires : goal.emit_row-to-requires
emit_row-to-requires c = (omega arith, omega arith, omega arith, c.requires.3 c.loop-i.i (omega arith))

pub loop-i-preserved : goal.loop-i-preserved
loop-i-preserved c =
    let l = c.loop-i in (
      omega (arith, c.emit_row-to.ensures.upper_bound),
      rw (front-more c.args.n (λ (j : ℕ). get_or c.args.sigma.now j 0) l.i)
          (next l.invariant.1 c.emit_row-to.ensures.fitted),
    )

pub returns-clause-fitted : goal.returns-clause-fitted
returns-clause-fitted c =
    let e : c.loop-i.i ≡ c.args.n = omega arith in
    rw e at c.loop-i.invariant.1

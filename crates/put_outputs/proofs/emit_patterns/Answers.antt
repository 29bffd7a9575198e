use Rattle.std.proofs.Common.{◌≡◌, arith}
use Rattle.std.proofs.Math.Pow.{pow_pos}
use Rattle.put_names.specs.Fitting.{next, none-fitted}
use Rattle.put_outputs.specs.Patterns.{patterns-none, patterns-more}
use Rattle.put_outputs.proofs.emit_patterns.Goals as goal

pub loop-i-init : goal.loop-i-init
loop-i-init c = (omega arith, rw patterns-none (none-fitted _ _))

pub nonzero_div-words : goal.nonzero_div-words
nonzero_div-words c = omega (arith, pow_pos c.args.j)

pub loop-i-preserved : goal.loop-i-preserved
loop-i-preserved c =
    let l = c.loop-i in
    let a = c.args in (
      omega (arith, c.emit_chosen-to.ensures.upper_bound),
      rw (patterns-more a.n a.j l.i a.masks.now a.values.now a.words.now)
          (next l.invariant.1 (rw c.requires.p_bound.2 at c.emit_chosen-to.ensures.fitted)),
    )

pub returns-clause-fact : goal.returns-clause-fact
returns-clause-fact c =
    let e : c.loop-i.i ≡ c.args.p = omega arith in
    rw e at c.loop-i.invariant.1

use Rattle.std.proofs.Common.{◌≡◌, arith}
use Rattle.put_outputs.specs.Patterns.{symbols-none, symbols-more, symbols-put, half-more}
use Rattle.put_outputs.proofs.put_cube.Goals as goal

pub loop-i-init : goal.loop-i-init
loop-i-init c = (omega arith, omega arith, symbols-none _ _ _ _)

pub loop-i-preserved : goal.loop-i-preserved
loop-i-preserved c =
    let l = c.loop-i in
    let a = c.args in (
      half-more a.mask l.i l.m l.invariant.0,
      half-more a.values l.i l.v l.invariant.1,
      rw (c.symbol.ensures, l.invariant.2)
          (symbols-more a.out.now a.at a.mask a.values l.i l.m l.v l.invariant.0 l.invariant.1),
    )

pub returns-clause-put : goal.returns-clause-put
returns-clause-put c =
    let a = c.args in
    let e : c.loop-i.i ≡ a.n = omega arith in
    symbols-put a.out.now _ a.at a.n a.mask a.values (rw e at c.loop-i.invariant.2)

use mathlib.Core.Path.{sym}
use native.Mathlib.Omega.{arith}
use borrow.Author.Count.{below_more}
use borrow.Author.Tests.{eq-eqb, ne_eqb}
use lib.Dec.{eqb}
use Rattle.slices.specs.Places.{at}
use Rattle.slices.specs.Least.{first-is}
use Rattle.reason_work.proofs.place_of.Goals as goal

pub returns-then-taken-j : goal.returns-then-taken-j
returns-then-taken-j c =
    let a = c.args in
    sym
    (first-is a.n (λ i. eqb (at a.taken.now i) a.t) c.loop-j.j (omega arith) c.loop-j.invariant
    (λ h. eq-eqb _ _ c.if-taken-j.true))

pub loop-j-preserved : goal.loop-j-preserved
loop-j-preserved c = below_more _ _ c.loop-j.invariant (ne_eqb _ _ c.if-taken-j.false)

pub returns : goal.returns
returns c =
    let a = c.args in
    sym
    (first-is a.n (λ i. eqb (at a.taken.now i) a.t) a.n (omega arith) (λ i h. c.loop-j.invariant i (omega arith))
    (λ h. absurd (omega arith)))

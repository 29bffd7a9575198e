use mathlib.Core.Path.{◌≡◌, sym}
use Prim.Native.Nat.{◌+◌}
use native.Mathlib.Omega.{arith}
use Rattle.slices.specs.Places.{at}
use Rattle.walks.specs.Walk.{value_at, walked-light, value-here}
use Rattle.choosing.specs.Steps.{candidate_by}
use Rattle.choosing.specs.Search.{leads-none, leads-taken, leads-left, leads-past, leads-all}
use borrow.Author.Rules.{rules}
use Rattle.choosing.proofs.choose.Goals as goal
use Rattle.choosing.proofs.choose.Goals.{then-is_better, else-is_better}

pub loop-place-init : goal.loop-place-init
loop-place-init c = (search rules, leads-none _ _ _)

pub loop-place-preserved : goal.loop-place-preserved
loop-place-preserved c =
    let a = c.args in
    let p = c.loop-place in
    let l = a.walk.now in
    let v = value_at l a.values.now a.count in
    let few = walked-light a.n a.w l a.count c.requires.walked p.place (omega arith) in
    let here = sym (value-here a.n a.w l a.count c.requires.walked a.values.now p.place (omega arith)) in
    let next = c.next_place-place.ensures in (
      next.within,
      leads-past v (candidate_by (at a.s.now) a.n a.k a.w) (at l) (p.place + 1) _ _ _ next.later
          (λ i from b.
          omega (
            arith,
            value-here a.n a.w l a.count c.requires.walked a.values.now i (omega (arith, next.within)),
            next.smaller i from b,
          ))
          (elim c.if-is_better.branch [
            | then-is_better w ↦ leads-taken v (at a.s.now) a.n a.k a.w (at l) p.place p.b p.top _ p.invariant.1 few here _ c.is_better.ensures _ _ w.if-is_better.true w.b-is w.top-is
            | else-is_better w ↦ leads-left v (at a.s.now) a.n a.k a.w (at l) p.place p.b p.top _ p.invariant.1 few here _ c.is_better.ensures _ _ w.if-is_better.false w.b-is w.top-is
          ]),
    )

pub returns : goal.returns
returns c =
    let a = c.args in
    let p = c.loop-place in
    let end : p.place ≡ a.count = omega arith in
    leads-all (value_at a.walk.now a.values.now a.count) (at a.s.now) a.n a.k a.w a.walk.now a.count
    p.b p.top c.requires.walked (rw end at p.invariant.1)

use mathlib.Core.Path.{sym, ◌∙◌}
use Prim.Native.Nat.{◌+◌}
use native.Mathlib.Omega.{arith}
use Rattle.read_chains.specs.Chains.{power_small}
use Rattle.read_chains.specs.Chains.{Grown, going-first, going-none, going-last, going-broken, going-part, few-parts, parts_more}
use borrow.Author.Rules.{rules}
use Rattle.std.proofs.lemmas.Result.{err_from_is_err_and}
use Rattle.read_chains.proofs.read_chain.Goals as goal

pub loop-all-init : goal.loop-all-init
loop-all-init c = (search rules, omega arith, omega arith, λ st h. going-first h)

pub read_link-requires : goal.read_link-requires
read_link-requires c = omega arith

pub returns-in-None : goal.returns-in-None
returns-in-None c =
    let a = c.args in
    let l = c.loop-all in
    λ st h.
    going-none a.text.now (omega arith) a.n a.i st a.at l.m l.part l.from l.begun (l.invariant.3 st h)
    (sym c.in-None.is ∙ c.read_link.ensures.value)

pub returns-in-Last : goal.returns-in-Last
unfolding Grown
returns-in-Last c =
    let a = c.args in
    let l = c.loop-all in
    λ st h.
    going-last a.text.now (omega arith) a.n a.i st a.at l.m l.part l.from l.begun (l.invariant.3 st h) c.in-Last.all c.in-Last.to
    (sym c.in-Last.is ∙ c.read_link.ensures.value) (rw c.in-Last.is at c.read_link.ensures.grown)
    c.end_row.result c.end_row.ensures

pub returns-in_err-next-in-Part : goal.returns-in_err-next-in-Part
returns-in_err-next-in-Part c =
    let a = c.args in
    let l = c.loop-all in
    let p = err_from_is_err_and c.from_residual.result c.from_residual.ensures.1 in
    rw (p.1, p.2) (λ st h.
    going-broken a.text.now (omega arith) a.n a.i st a.at l.m l.part l.from l.begun (l.invariant.3 st h) c.in-Part.more c.in-Part.to
    (sym c.in-Part.is ∙ c.read_link.ensures.value) _
    c.in_err-next-in-Part.ensures)

pub meet_so_far-begun-requires : goal.meet_so_far-begun-requires
meet_so_far-begun-requires c = omega arith

pub overflow_add-part : goal.overflow_add-part
overflow_add-part c = omega arith

pub loop-all-smaller : goal.loop-all-smaller
unfolding Grown
loop-all-smaller c =
    let g = rw c.in-Part.is at c.read_link.ensures.grown in
    omega (arith, g.0, g.1)

pub loop-all-preserved : goal.loop-all-preserved
unfolding Grown
loop-all-preserved c =
    let a = c.args in
    let l = c.loop-all in
    let k = c.read_link.ensures in
    let g = rw c.in-Part.is at k.grown in
    let d = parts_more l.m c.in-Part.more l.part l.invariant.1 g.1 in (
      g.0,
      d,
      few-parts c.in-Part.more (l.part + 1) (omega (arith, g.0, power_small a.n (omega arith))) d,
      λ st h.
          going-part a.text.now (omega arith) a.n a.i st a.at l.m l.part l.from l.begun (l.invariant.3 st h) c.in-Part.more c.in-Part.to
          (sym c.in-Part.is ∙ k.value) c.in_ok-next-in-Part.next
          c.in_ok-next-in-Part.ensures c.meet_so_far-begun.result c.meet_so_far-begun.ensures,
    )

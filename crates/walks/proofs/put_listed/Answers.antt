use mathlib.Core.Path.{◌≡◌, sym, ◌∙◌}
use mathlib.Core.Bool.{true}
use Prim.Native.Nat.{◌<◌}
use native.Mathlib.Omega.{arith}
use lib.ListN.{length}
use Rattle.slices.specs.Laid.{laid_none}
use Rattle.walks.specs.Printed.{cut, kept-none, kept-room, laid_kept, laid-left, cut-more, cut-here}
use borrow.Author.Rules.{rules}
use Rattle.walks.proofs.put_listed.Goals as goal
use Rattle.walks.proofs.put_listed.Goals.{After-is_light, Else-size-t, then-is_light, else-is_light}

-- a number that is looked at is below the cut
inside : (c : goal.Else-size-t) → c.loop-t.t-index
    < cut c.args.n c.args.list.now
inside c =
    let p = c.loop-t in
    let a = c.args in
    cut-more a.n a.list.now p.t-index p.invariant.0 (search rules) (omega arith)

-- one that is kept has room
room : (c : goal.After-is_light) → c.is_light.result ≡ true
    → c.loop-t.count < length c.args.out.now
room c h =
    let p = c.loop-t in
    let a = c.args in
    omega (
      arith,
      p.invariant.1.counted,
      c.requires.0,
      kept-room a.w a.list.now p.t-index (cut a.n a.list.now) (sym c.is_light.ensures ∙ h) (cut-more a.n a.list.now p.t-index p.invariant.0 (search rules) (omega arith)),
    )

pub loop-t-init : goal.loop-t-init
loop-t-init c = (search rules, rw kept-none (laid_none _))

pub returns-then-size-t : goal.returns-then-size-t
returns-then-size-t c =
    let p = c.loop-t in
    let a = c.args in
    let end = cut-here a.n a.list.now p.t-index p.invariant.0 (λ b. omega arith) in
    rw end record {
      out_after = p.invariant.1.holds;
      value = p.invariant.1.counted;
    }

pub bounds-out-count : goal.bounds-out-count
bounds-out-count c =
    omega (arith, room (goal.at.bounds-out-count c).After-is_light c.if-is_light.true, c.loop-t.invariant.1.size)

pub loop-t-preserved : goal.loop-t-preserved
loop-t-preserved c =
    let p = c.loop-t in
    let light = c.is_light.ensures in (
      omega (arith, inside (goal.at.loop-t-preserved c).Else-size-t),
      elim c.if-is_light.branch [
        | then-is_light v ↦ laid_kept _ _ p.t-index _ _ _ p.count _ p.invariant.1 (sym light ∙ v.if-is_light.true) (room (goal.at.loop-t-preserved c).After-is_light v.if-is_light.true) v.out-is v.count-is
        | else-is_light v ↦ laid-left _ _ p.t-index _ _ _ p.count _ p.invariant.1 (sym light ∙ v.if-is_light.false) v.out-is v.count-is
      ],
    )

pub returns : goal.returns
returns c =
    let p = c.loop-t in
    let a = c.args in
    let end = cut-here a.n a.list.now p.t-index p.invariant.0 (λ b. absurd (omega arith)) in
    rw end record {
      out_after = p.invariant.1.holds;
      value = p.invariant.1.counted;
    }

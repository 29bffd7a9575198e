use mathlib.Core.Path.{◌≡◌, refl, sym, ◌∙◌}
use mathlib.Core.Bool.{true}
use Prim.Native.Nat.{◌≤◌, ◌<◌, ◌+◌, ◌^◌}
use native.Mathlib.Omega.{arith}
use lib.ListN.{length}
use Rattle.candidates.specs.Light.{light}
use Rattle.slices.specs.Laid.{laid_none, laid_more}
use Rattle.walks.specs.Walk.{walk, walk_none, walk-taken, walk-past, walk-room}
use borrow.Author.Rules.{rules}
use Rattle.walks.proofs.make_walk.Goals as goal
use Rattle.walks.proofs.make_walk.Goals.{After-stride-t, Then-is_light}

-- a number of the walk has room
room : (c : goal.Then-is_light) → light c.args.w c.loop-t.t ≡ true
    → c.loop-t.count < length (walk c.args.n c.args.w)
room c h =
    let p = c.loop-t in
    let a = c.args in
    omega (arith, walk-room a.n a.w p.t h (omega arith), p.invariant.2.counted)

pub loop-t-init : goal.loop-t-init
loop-t-init c = (search rules, c.size-size.ensures, rw walk_none (laid_none _))

pub bounds-out-count : goal.bounds-out-count
bounds-out-count c =
    omega (arith, room (goal.at.bounds-out-count c).Then-is_light (sym c.is_light.ensures ∙ c.if-is_light.true), c.loop-t.invariant.2.size)

pub loop-t-preserved-then-is_light : goal.loop-t-preserved-then-is_light
loop-t-preserved-then-is_light c =
    let p = c.loop-t in
    let taken = sym c.is_light.ensures ∙ c.if-is_light.true in (
      search rules,
      search rules,
      rw (walk-taken _ p.t taken) (laid_more _ _ _ _ _ _ p.t p.invariant.2 (omega (arith, room (goal.at.loop-t-preserved-then-is_light c).Then-is_light taken)) refl refl),
    )

-- where the next number stands
past : (c : goal.After-stride-t) → c.loop-t.t + c.stride-t.result ≤ c.size-size.result
past c =
    let n = c.args.n in
    omega (arith, c.stride-t.ensures.inside n (omega arith))

pub loop-t-preserved : goal.loop-t-preserved
loop-t-preserved c =
    let p = c.loop-t in
    (past (goal.at.loop-t-preserved c).After-stride-t, search rules, rw (walk-past _ p.t _ c.stride-t.ensures.none) p.invariant.2)

pub returns : goal.returns
unfolding walk
returns c =
    let p = c.loop-t in
    let end : p.t ≡ 2 ^ c.args.n = omega arith in
    let all = rw end at p.invariant.2 in
    record {
      out_after = all.holds;
      value = all.counted;
    }

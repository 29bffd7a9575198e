use mathlib.Core.Path.{refl}
use native.Mathlib.Omega.{arith}
use borrow.Author.Rules.{rules}
use Rattle.join_work.specs.All.{so-far-none, in_place, pair-in-place, so_far_more, so-far-next, all-joined}
use Rattle.join_work.proofs.join_all.Goals as goal

pub loop-count-init : goal.loop-count-init
loop-count-init c = (search rules, search rules, search rules, so-far-none _ _ _ c.requires.0)

pub find_nearest-q-requires : goal.find_nearest-q-requires
find_nearest-q-requires c =
    let l = c.loop-count in
    let few = l.invariant.3.few in
    let p = in_place _ _ _ _ _ _ _ _ _ l.invariant.3 _ refl in
    (omega (arith, p.0, p.1), omega (arith, few), omega (arith, few), omega (arith, few))

pub join_pair-requires : goal.join_pair-requires
join_pair-requires c =
    let l = c.loop-count in
    let few = l.invariant.3.few in
    let o = pair-in-place _ _ _ _ _ _ _ _ _ l.invariant.3 _ c.find_nearest-q.ensures c.if-q-count.true _ _ c.in_order-pair.ensures in
    (o.0, o.1, omega (arith, few), omega (arith, few), omega (arith, few))

pub loop-count-preserved-then-q-count : goal.loop-count-preserved-then-q-count
loop-count-preserved-then-q-count c =
    let l = c.loop-count in
    (search rules, search rules, search rules, so_far_more _ _ _ _ _ _ _ _ _ l.invariant.3 _ c.find_nearest-q.ensures c.if-q-count.true _ _ c.in_order-pair.ensures _ _ _ _ c.still_seen-seen.ensures c.join_pair.ensures)

pub returns-then-seen-count : goal.returns-then-seen-count
returns-then-seen-count c =
    let l = c.loop-count in
    all-joined _ _ _ _ _ _ _ _ _ l.invariant.3 _ c.find_nearest-q.ensures (omega arith) (l.invariant.0, l.invariant.1, l.invariant.2) c.if-seen-count.true

pub overflow_add-seen : goal.overflow_add-seen
overflow_add-seen c =
    let l = c.loop-count in
    let p = in_place _ _ _ _ _ _ _ _ _ l.invariant.3 _ c.find_nearest-q.ensures in
    omega (arith, p.1, l.invariant.3.few)

pub loop-count-smaller : goal.loop-count-smaller
loop-count-smaller c =
    let l = c.loop-count in
    let p = in_place _ _ _ _ _ _ _ _ _ l.invariant.3 _ c.find_nearest-q.ensures in
    omega (arith, p.1, c.if-seen-count.false)

pub loop-count-preserved : goal.loop-count-preserved
loop-count-preserved c =
    let l = c.loop-count in
    (search rules, search rules, search rules, so-far-next _ _ _ _ _ _ _ _ _ l.invariant.3 _ c.find_nearest-q.ensures (omega arith) c.if-seen-count.false)

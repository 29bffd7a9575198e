use mathlib.Core.Path.{◌≡◌, sym, ◌∙◌, refl}
use native.Mathlib.Omega.{arith}
use borrow.Author.Count.{below_more}
use borrow.Author.Tests.{eqb-true, eqb-false}
use lib.ListN.{length}
use Rattle.shared_points.specs.Pairs.{pair-at, pair-none}
use Rattle.shared_points.proofs.first_pair.Goals as goal

pub search-init : goal.search-init
search-init c = (refl, λ k h. absurd (omega arith))

pub loop-j-init : goal.loop-j-init
loop-j-init c =
    (c.search.invariant.0, λ k h l. absurd (omega arith))

pub loop-j-preserved : goal.loop-j-preserved
loop-j-preserved c =
    let l = c.loop-j in
    (l.invariant.0, below_more _ _ l.invariant.1 (λ a. eqb-false _ _ (sym c.meet.ensures ∙ c.if-meet.false)))

pub search-preserved : goal.search-preserved
search-preserved c =
    let l = c.loop-j in
    let o = c.search in
    let e : l.j ≡ length c.args.masks.now = omega arith in
    (l.invariant.0, below_more _ _ o.invariant.1 (rw e at l.invariant.1))

pub returns-after-search : goal.returns-after-search
returns-after-search c =
    λ n words f sound.
    let a = c.args in
    let o = c.search in
    let e : o.i ≡ length a.masks.now = omega arith in
    o.invariant.0 ∙ pair-none n a.masks.now a.values.now words c.requires f sound
    (rw e at o.invariant.1)

pub returns-then-meet : goal.returns-then-meet
returns-then-meet c =
    λ n words f sound.
    let a = c.args in
    let l = c.loop-j in
    let o = c.search in
    pair-at n a.masks.now a.values.now words c.requires f sound o.i l.j (omega arith) (omega arith) o.invariant.1
    l.invariant.1
    (eqb-true _ _ (sym c.meet.ensures ∙ c.if-meet.true))

use Rattle.std.proofs.Common.{◌≡◌, sym, ◌∙◌, arith, below_more}
use Rattle.std.specs.Prelude.{false}
use Rattle.join_work.specs.Found.{joins_at, not-one-apart, nearest-is}
use Rattle.join_work.proofs.find_nearest.Goals as goal
use Rattle.join_work.proofs.find_nearest.Goals.{else-is_one_apart-via-then-is_one_apart+else-is_joined, else-is_one_apart-via-else-is_one_apart}

pub returns-then-is_joined : goal.returns-then-is_joined
returns-then-is_joined c =
    let a = c.args in
    nearest-is a.p a.c c.loop-q.q a.masks.now a.values.now a.words.now (omega arith) (omega arith) c.loop-q.invariant
    (λ h. sym c.is_joined.ensures ∙ c.if-is_joined.true)

pub loop-q-preserved : goal.loop-q-preserved
loop-q-preserved c =
    let a = c.args in
    let now : joins_at a.masks.now a.values.now a.words.now c.loop-q.q a.c ≡ false =
    elim c.else-is_one_apart.branch [
      | else-is_one_apart-via-then-is_one_apart+else-is_joined w ↦ sym w.is_joined.ensures ∙ w.if-is_joined.false
      | else-is_one_apart-via-else-is_one_apart w ↦ not-one-apart _ _ (sym c.is_one_apart.ensures ∙ w.if-is_one_apart.false)
    ]
    in
    below_more _ _ c.loop-q.invariant now

pub returns : goal.returns
returns c =
    let a = c.args in
    nearest-is a.p a.c a.p a.masks.now a.values.now a.words.now (omega arith) (omega arith) (λ j h. c.loop-q.invariant j (omega arith))
    (λ h. absurd (omega arith))

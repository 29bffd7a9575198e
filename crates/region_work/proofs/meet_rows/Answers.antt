use mathlib.Core.Path.{◌≡◌, sym, ◌∙◌}
use Prim.Native.Nat.{◌+◌}
use native.Mathlib.Omega.{arith}
use lib.ListN.{length}
use Rattle.region_work.specs.Meet.{Says, says_none, says-le, says-met, says-unmet}
use borrow.Author.Rules.{rules}
use Rattle.region_work.proofs.meet_rows.Goals as goal
use Rattle.region_work.proofs.meet_rows.Goals.{then-meet, else-meet}

pub loop-i-init : goal.loop-i-init
loop-i-init c = (search rules, says_none _ _ _ _)

pub loop-i-preserved : goal.loop-i-preserved
loop-i-preserved c =
    let a = c.args in
    let l = c.loop-i in
    let next : Says a.q a.masks.now a.values.now a.words.now (l.i + 1) c.if-meet.rows c.if-meet.fixed c.if-meet.word
    = elim c.if-meet.branch [
      | then-meet d ↦ says-met a.q a.masks.now a.values.now a.words.now l.invariant.1 (sym c.meet.ensures ∙ d.if-meet.true) d.rows-is d.fixed-is d.word-is
      | else-meet d ↦ says-unmet a.q a.masks.now a.values.now a.words.now l.invariant.1 (sym c.meet.ensures ∙ d.if-meet.false) d.rows-is d.fixed-is d.word-is
    ] in
    (says-le a.q a.masks.now a.values.now a.words.now next, next)

pub returns : goal.returns
returns c = let end : c.loop-i.i ≡ length c.args.masks.now = omega arith in rw end at c.loop-i.invariant.1

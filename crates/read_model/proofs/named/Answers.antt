use mathlib.Core.Path.{◌≡◌, sym, ◌∙◌}
use mathlib.Core.Bool.{false}
use Prim.Native.Nat.{ℕ, ◌+◌, ◌<◌}
use native.Mathlib.Omega.{arith}
use borrow.Author.Count.{below_more}
use Rattle.slices.specs.Least.{first-is}
use Rattle.read_names.specs.Met.{lost-is}
use Rattle.read_model.specs.Whole.{named_at, named-yes, named-no, named-zero}
use Rattle.read_model.proofs.named.Goals as goal
use Rattle.read_model.proofs.named.Goals.{else-loop-n-test, then-loop-n-test+else-meet_named+else-n-most}

pub loop-n-init : goal.loop-n-init
loop-n-init c = let a = c.args in named-zero a.text.now a.at a.word.now a.letter

pub returns-then-meet_named : goal.returns-then-meet_named
returns-then-meet_named c =
    let l = c.loop-n in
    let a = c.args in
    sym
    (first-is (a.most + 1) (named_at a.text.now a.at a.word.now a.letter) l.n (omega arith) l.invariant
    (λ q.
    named-yes a.text.now (omega arith) a.at a.word.now a.letter l.n (omega arith) c.meet_named.result c.meet_named.ensures
    (λ w. c.if-meet_named.true (w ∙ lost-is))))

pub loop-n-preserved : goal.loop-n-preserved
loop-n-preserved c =
    let l = c.loop-n in
    let a = c.args in
    below_more (λ j. named_at a.text.now a.at a.word.now a.letter j ≡ false) l.n l.invariant
    (named-no a.text.now (omega arith) a.at a.word.now a.letter l.n (omega arith) c.meet_named.result c.meet_named.ensures
    (c.if-meet_named.false ∙ sym lost-is))

pub returns : goal.returns
returns c =
    let l = c.loop-n in
    let a = c.args in
    let past : (j : ℕ) → j < a.most + 1 → named_at a.text.now a.at a.word.now a.letter j ≡ false =
    elim c.loop-n-test.branch [
      | else-loop-n-test w ↦ λ j h. l.invariant j (omega arith)
      | then-loop-n-test+else-meet_named+else-n-most w ↦
          λ j h.
          below_more (λ j. named_at a.text.now a.at a.word.now a.letter j ≡ false) l.n l.invariant
          (named-no a.text.now (omega arith) a.at a.word.now a.letter l.n (omega arith) w.meet_named.result w.meet_named.ensures
          (w.if-meet_named.false ∙ sym lost-is)) j (omega arith)
    ] in
    sym (first-is (a.most + 1) (named_at a.text.now a.at a.word.now a.letter) (a.most + 1) (omega arith) past (λ q. absurd (omega arith)))

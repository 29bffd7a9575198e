use Rattle.std.proofs.Common.{◌≡◌, eqb, length, pos, refl, ◌∙◌, arith}
use Rattle.slices.specs.Places.{at}
use Rattle.slices.specs.Filled.{over_none, over-more, over-whole}
use Rattle.spectrum_words.specs.Words.{marks}
use Rattle.spectrum_words.specs.Laws.{mark-back}
use Rattle.spectrum_words.proofs.put_marks.Goals as goal

pub loop-x-init : goal.loop-x-init
loop-x-init c = over_none _ _

pub loop-x-preserved : goal.loop-x-preserved
loop-x-preserved c =
    let a = c.args in
    over-more _ _ _ _ _ c.loop-x.invariant (mark-back _ (eqb (at a.table.now c.loop-x.x) a.u) c.mark.ensures) (omega arith)

pub returns : goal.returns
returns c =
    let a = c.args in
    let end : c.loop-x.x ≡ length a.s.now = omega arith in
    (rw end at c.loop-x.invariant) ∙ over-whole (length a.s.now) (λ x. pos (marks (at a.table.now) a.u x)) a.s.now refl

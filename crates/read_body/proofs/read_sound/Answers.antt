use mathlib.Core.Path.{◌≡◌, sym, ap, ◌∙◌}
use native.Mathlib.Omega.{arith}
use borrow.Author.Count.{below_more}
use Rattle.slices.specs.Filled.{over_none, over-more}
use Rattle.slices.specs.Least.{first-is}
use Rattle.block.specs.Words.{mask_part, values_part, word_part}
use Rattle.read_laws.specs.ByPlace.{row_or, is_broken, line_of, broken_line, field_of}
use Rattle.std.specs.Prelude.{Some, None}
use Rattle.read_body.proofs.read_sound.Goals as goal

pub loop-i-init : goal.loop-i-init
loop-i-init c = (λ j h. absurd (omega arith), over_none _ _, over_none _ _, over_none _ _)

pub returns-in-None-clause-value : goal.returns-in-None-clause-value
unfolding line_of
returns-in-None-clause-value c =
    let l = c.loop-i in
    let a = c.args in
    let broken : line_of a.s.now a.n a.k l.i ≡ None = sym c.read_row.ensures ∙ c.in-None.is in
    sym (first-is a.p (broken_line a.s.now a.n a.k) l.i (omega arith) l.invariant.0 (λ h. ap is_broken broken))

pub loop-i-preserved : goal.loop-i-preserved
unfolding line_of
loop-i-preserved c =
    let l = c.loop-i in
    let a = c.args in
    let r = c.in-Some.r in
    let sound : line_of a.s.now a.n a.k l.i ≡ Some r = sym c.read_row.ensures ∙ c.in-Some.is in
    let e : r ≡ row_or (line_of a.s.now a.n a.k l.i) = sym (ap row_or sound) in (
      below_more _ _ l.invariant.0 (ap is_broken sound),
      over-more l.i (field_of mask_part a.s.now a.n a.k) a.masks.now l.masks r.mask l.invariant.1 (ap mask_part e) (omega arith),
      over-more l.i (field_of values_part a.s.now a.n a.k) a.values.now l.values r.values l.invariant.2 (ap values_part e) (omega arith),
      over-more l.i (field_of word_part a.s.now a.n a.k) a.words.now l.words r.word l.invariant.3 (ap word_part e) (omega arith),
    )

pub returns-clause-value : goal.returns-clause-value
returns-clause-value c =
    let a = c.args in
    let e : c.loop-i.i ≡ a.p = omega arith in
    sym (first-is a.p (broken_line a.s.now a.n a.k) a.p (omega arith) (rw e at c.loop-i.invariant.0) (λ h. absurd (omega arith)))

use mathlib.Core.Path.{◌≡◌, refl, sym, ap₂, ◌∙◌}
use native.Mathlib.Omega.{arith}
use borrow.Author.Count.{below_more}
use borrow.Author.Tests.{lt-ltb, le-ltb}
use lib.Dec.{ltb}
use Rattle.slices.specs.Places.{at}
use Rattle.slices.specs.Least.{first-is}
use Rattle.block.specs.Basis.{span}
use Rattle.block.specs.Refusals.{dependent}
use Rattle.matrix_steps.specs.Steps.{reach-start, reach-turn, span-held}
use Rattle.matrix_steps.proofs.first_dependent.Goals as goal
use Rattle.matrix_steps.proofs.first_dependent.Goals.{After-power}

-- the test of the code is the rule's
test : (c : goal.After-power) → span (at c.args.rows.now) c.loop-j.j (at c.args.rows.now c.loop-j.j)
    ≡ ltb c.apply_rows.result c.power.result
test c =
    let l = c.loop-j in
    span-held c.args.n (at c.args.rows.now) l.j _ _ (omega arith)
    (record { below = λ i h. c.requires.3 i (omega arith); fresh = l.invariant.0 }) (c.requires.3 l.j (omega arith)) l.invariant.1
    ∙ sym (ap₂ ltb c.apply_rows.ensures c.power.ensures)

pub loop-j-init : goal.loop-j-init
loop-j-init c = ((λ i h. absurd (omega arith)), reach-start _ _ _ _ c.put_units.ensures)

pub returns-then-apply_rows-power : goal.returns-then-apply_rows-power
unfolding dependent
returns-then-apply_rows-power c =
    sym (first-is _ _ _ (omega arith) c.loop-j.invariant.0 (λ h. test (goal.at.returns-then-apply_rows-power c).After-power ∙ lt-ltb _ _ c.if-apply_rows-power.true))

pub loop-j-preserved : goal.loop-j-preserved
loop-j-preserved c =
    let l = c.loop-j in
    let a = c.args in (
      below_more _ _ l.invariant.0 (test (goal.at.loop-j-preserved c).After-power ∙ le-ltb _ _ c.if-apply_rows-power.false),
      reach-turn a.n (at a.rows.now) l.j _ _ l.m _ (omega arith) l.invariant.1 refl c.advance.ensures.rows,
    )

pub returns : goal.returns
unfolding dependent
returns c =
    sym (first-is _ _ _ (omega arith) (λ i h. c.loop-j.invariant.0 i (omega arith)) (λ h. absurd (omega arith)))

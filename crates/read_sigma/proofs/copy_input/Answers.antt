use mathlib.Core.List.{[], ◌∷◌, ◌++◌}
use mathlib.Core.Path.{◌≡◌, sym, ◌∙◌}
use mathlib.Core.Bool.{false}
use native.Mathlib.Omega.{arith}
use borrow.Author.Count.{below_more}
use Rattle.slices.specs.Least.{first-is}
use Rattle.block.specs.Model.{x_name, z_name}
use Rattle.read_names.specs.Met.{lost-is, met-found, met-missed}
use Rattle.read_sigma.specs.Rows.{copy_at}
use Rattle.read_sigma.proofs.copy_input.Goals as goal

pub returns-then-meet_last : goal.returns-then-meet_last
returns-then-meet_last c =
    let l = c.loop-a in
    let a = c.args in
    sym
    (first-is a.n (copy_at a.text.now a.at a.i) l.a (omega arith) l.invariant
    (λ q. met-found a.text.now (omega arith) a.at (32 ∷ x_name l.a ++ (32 ∷ z_name a.i ++ (10 ∷ []))) (λ d. c.if-meet_last.true (c.meet_last.ensures ∙ d ∙ lost-is))))

pub loop-a-preserved : goal.loop-a-preserved
loop-a-preserved c =
    let l = c.loop-a in
    let a = c.args in
    below_more (λ j. copy_at a.text.now a.at a.i j ≡ false) l.a l.invariant
    (met-missed a.text.now (omega arith) a.at (32 ∷ x_name l.a ++ (32 ∷ z_name a.i ++ (10 ∷ []))) (omega arith) (sym c.meet_last.ensures ∙ c.if-meet_last.false ∙ sym lost-is))

pub returns : goal.returns
returns c =
    let a = c.args in
    let e : c.loop-a.a ≡ a.n = omega arith in
    sym (first-is a.n (copy_at a.text.now a.at a.i) a.n (omega arith) (rw e at c.loop-a.invariant) (λ q. absurd (omega arith)))

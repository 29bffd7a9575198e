-- `choosing::choose_basis` meets its contract: the units stand in sigma's room for the first sum, T in its own for the second.
-- Assumes nothing.
use mathlib.Core.Path.{ap, ◌∙◌}
use Prim.Native.Nat.{ℕ, ◌^◌}
use Rattle.slices.specs.Places.{tab, over}
use Rattle.slices.specs.Filled.{over-over}
use Rattle.choice_laws.specs.Chosen.{pick}
use Rattle.matrix_laws.specs.Reach.{reach_rows}
use Rattle.walks.specs.Walk.{value_at}
use Rattle.walks.specs.Ascending.{walked-ascending}
use Rattle.choosing.specs.Steps.{sum-held}
use borrow.Author.Rules.{rules}
use Rattle.choosing.proofs.choose_basis.Goals as goal

pub sum_of-before-requires : goal.sum_of-before-requires
sum_of-before-requires c = (search rules, search rules, search rules, search rules, walked-ascending _ _ _ _ c.requires.walked)

pub sum_of-after-requires : goal.sum_of-after-requires
sum_of-after-requires c = (search rules, search rules, search rules, search rules, walked-ascending _ _ _ _ c.requires.walked)

pub returns : goal.returns
returns c =
    let a = c.args in
    let n = a.n in
    let v = value_at a.walk.now a.values.now a.count in
    let p = pick v n a.w in
    let put = c.put_units.ensures in
    let all = c.choose_all.ensures in
    record {
      basis = all.basis_after;
      sigma = all.sigma_after ∙ ap (over (tab n (reach_rows n p n))) put ∙ over-over n (λ (j : ℕ). 2 ^ j) (reach_rows n p n) a.sigma.now;
      earlier = c.sum_of-before.ensures ∙ sum-held v (λ (j : ℕ). 2 ^ j) n _ _ put;
      later = c.sum_of-after.ensures ∙ sum-held v p n _ _ all.basis_after;
    }

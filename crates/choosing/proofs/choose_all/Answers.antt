use mathlib.Core.Path.{◌≡◌, ap, ◌∙◌}
use native.Mathlib.Omega.{arith}
use Rattle.slices.specs.Places.{tab, over}
use Rattle.slices.specs.Filled.{over_none, over-more, over-over}
use Rattle.choice_laws.specs.Chosen.{pick}
use Rattle.matrix_laws.specs.Reach.{reach_rows}
use Rattle.matrix_steps.specs.Steps.{reach-start, reach-turn}
use Rattle.walks.specs.Walk.{value_at}
use Rattle.choosing.specs.Steps.{choose-turn}
use Rattle.choosing.proofs.choose_all.Goals as goal

pub loop-k-init : goal.loop-k-init
loop-k-init c = (over_none _ _, reach-start _ _ _ _ c.put_units.ensures)

pub loop-k-preserved : goal.loop-k-preserved
loop-k-preserved c =
    let a = c.args in
    let p = c.loop-k in
    let v = value_at a.walk.now a.values.now a.count in
    let t : c.choose-t.result ≡ pick v a.n a.w p.k =
    choose-turn v a.n a.w p.k _ _ p.sigma c.requires.count_in_bounds.5 (omega arith) p.invariant.1 c.choose-t.ensures in (
      over-more _ (pick v a.n a.w) _ _ _ p.invariant.0 t (omega arith),
      reach-turn a.n (pick v a.n a.w) p.k _ _ p.sigma _ (omega arith) p.invariant.1 t c.advance.ensures.rows,
    )

pub returns : goal.returns
returns c =
    let a = c.args in
    let i = c.loop-k.invariant in
    let end : c.loop-k.k ≡ a.n = omega arith in
    let v = value_at a.walk.now a.values.now a.count in record {
      basis_after = rw end at i.0;
      sigma_after = (rw end at i.1) ∙ ap (over (tab a.n (reach_rows a.n (pick v a.n a.w) a.n))) c.put_units.ensures
          ∙ over-over _ _ _ _;
    }

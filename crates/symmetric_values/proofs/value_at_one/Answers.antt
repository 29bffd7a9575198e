use mathlib.Core.Path.{◌≡◌, ◌∙◌}
use native.Mathlib.Omega.{arith}
use Rattle.slices.specs.Filled.{over_none, over-more}
use Rattle.symmetric_laws.specs.Weights.{changed, equal}
use Rattle.symmetric_laws.specs.Blocks.{word_for}
use Rattle.symmetric_values.specs.Values.{laid-small, one-small, folded-one}
use Rattle.symmetric_values.proofs.value_at_one.Goals as goal

pub loop-c-init : goal.loop-c-init
loop-c-init c = over_none _ _

pub loop-c-preserved : goal.loop-c-preserved
loop-c-preserved c =
    over-more _ (λ i. changed (equal (word_for c.args.words.now)) i i) _ _ _ c.loop-c.invariant c.one_changed.ensures (omega arith)

pub fold_all-requires : goal.fold_all-requires
fold_all-requires c =
    let l = c.loop-c in (
      omega arith,
      omega arith,
      λ i h. laid-small _ l.c _ l.values l.invariant (one-small (word_for c.args.words.now)) i (omega arith),
    )

pub returns : goal.returns
returns c =
    let l = c.loop-c in
    let end : l.c ≡ c.args.n = omega arith in
    c.fold_all.ensures ∙ folded-one c.args.words.now c.args.n _ l.values (rw end at l.invariant) c.requires.1

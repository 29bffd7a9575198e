use mathlib.Core.Path.{◌≡◌, ap, ap₂, ◌∙◌}
use mathlib.Core.List.{List}
use Prim.Native.Nat.{ℕ, ◌+◌, ◌≤◌}
use native.Mathlib.Omega.{arith}
use Rattle.slices.specs.Places.{at, tab, over}
use Rattle.slices.specs.Filled.{over_none, over-more, over-beyond}
use Rattle.symmetric_values.proofs.fold_once.Goals as goal

pub loop-i-init : goal.loop-i-init
loop-i-init c = over_none _ _

-- from i on the values are those that were lent
held : (i j : ℕ) (l values : List ℕ) → values ≡ over (tab i (λ j. at l j + at l (j + 1))) l → i ≤ j → at values j ≡ at l j
held i j l values e h = ap (λ (k : List ℕ). at k j) e ∙ over-beyond i _ l 0 j h

pub overflow_add-values-in-loop-i : goal.overflow_add-values-in-loop-i
overflow_add-values-in-loop-i c =
    let i = c.loop-i.i in
    let l = c.args.values.now in
    omega (
      arith,
      held i i l _ c.loop-i.invariant (omega arith),
      held i (i + 1) l _ c.loop-i.invariant (omega arith),
      c.requires.1 i (omega arith),
      c.requires.1 (i + 1) (omega arith),
    )

pub loop-i-preserved : goal.loop-i-preserved
loop-i-preserved c =
    let i = c.loop-i.i in
    let l = c.args.values.now in
    over-more i (λ j. at l j + at l (j + 1)) l _ _ c.loop-i.invariant
    (ap₂ ◌+◌ (held i i l _ c.loop-i.invariant (omega arith)) (held i (i + 1) l _ c.loop-i.invariant (omega arith))) (omega arith)

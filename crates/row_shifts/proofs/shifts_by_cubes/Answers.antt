use mathlib.Core.Path.{◌≡◌, ap, ap₂, ◌∙◌}
use mathlib.Core.List.{List}
use Prim.Native.Nat.{ℕ, ◌+◌, ◌-◌}
use native.Mathlib.Omega.{arith}
use Rattle.slices.specs.Places.{at}
use Rattle.slices.specs.Filled.{over_none, over-more, over-beyond}
use Rattle.row_shifts.specs.Stored.{added_by}
use Rattle.row_shifts.proofs.shifts_by_cubes.Goals as goal
use Rattle.row_shifts.proofs.shifts_by_cubes.Goals.{At-loop-i}

-- the entry at i still holds what it held
held : (c : goal.At-loop-i) → at c.loop-i.out c.loop-i.i ≡ at c.args.out.now c.loop-i.i
held c =
    ap (λ (l : List ℕ). at l c.loop-i.i) c.loop-i.invariant
    ∙ over-beyond c.loop-i.i _ c.args.out.now 0 c.loop-i.i (omega arith)

pub loop-i-init : goal.loop-i-init
loop-i-init c = over_none _ _

pub overflow_add-out : goal.overflow_add-out
overflow_add-out c =
    omega (arith, c.shift_by_cubes-more.ensures, held (goal.at.overflow_add-out c).At-loop-i, c.requires.by_index c.loop-i.i (omega arith), c.requires.by_index_2 c.loop-i.i (omega arith))

pub overflow_sub-out : goal.overflow_sub-out
overflow_sub-out c =
    omega (arith, c.shift_by_cubes-more.ensures, held (goal.at.overflow_sub-out c).At-loop-i, c.requires.by_index_3 c.loop-i.i (omega arith))

pub loop-i-preserved : goal.loop-i-preserved
loop-i-preserved c =
    let a = c.args in
    let f : ℕ → ℕ = λ j. at a.out.now j + added_by a.cube_masks.now a.cube_values.now a.cube_weights.now a.count (at a.ts.now j) - a.less in
    over-more _ f _ _ _ c.loop-i.invariant (ap₂ (λ (x y : ℕ). x + y - a.less) (held (goal.at.loop-i-preserved c).At-loop-i) c.shift_by_cubes-more.ensures) (omega arith)

use mathlib.Core.Path.{◌≡◌, refl, ◌∙◌, sym, ap, subst}
use Prim.Native.Nat.{◌*◌, ◌≤◌}
use native.Mathlib.Omega.{arith}
use lib.IntN.{ℤ, pos, nat_abs}
use lib.ListN.{length}
use Rattle.slices.specs.Filled.{over_none, over-more, over-beyond, over-whole}
use Rattle.walsh_laws.specs.Walsh.{most_points}
use Rattle.walsh_laws.specs.Passes.{val}
use Rattle.walsh_laws.specs.Machine.{square-fits, square-back}
use Rattle.walsh.proofs.square.Goals as goal
use Rattle.walsh.proofs.square.Goals.{In-loop-a}

-- the number is the one that stood there, and small
abbrev here : goal.In-loop-a → ℤ
here c =
    val c.loop-a.s c.loop-a.a-index

kept : (c : goal.In-loop-a) → here c ≡ val c.args.s.now c.loop-a.a-index
kept c =
    ap (λ l. val l c.loop-a.a-index) c.loop-a.invariant
    ∙ over-beyond c.loop-a.a-index _ c.args.s.now (pos 0) c.loop-a.a-index (omega arith)

small : (c : goal.In-loop-a) → nat_abs (here c) ≤ most_points
small c =
    subst (λ z. nat_abs z ≤ most_points) (sym (kept c)) (c.requires c.loop-a.a-index (omega arith))

pub loop-a-init : goal.loop-a-init
loop-a-init c = over_none _ _

pub overflow_mul-a : goal.overflow_mul-a
overflow_mul-a c = square-fits (here (goal.at.overflow_mul-a c).In-loop-a) (small (goal.at.overflow_mul-a c).In-loop-a)

pub loop-a-preserved : goal.loop-a-preserved
loop-a-preserved c =
    over-more _ _ _ _ _ c.loop-a.invariant
    (square-back (here (goal.at.loop-a-preserved c).In-loop-a) (small (goal.at.loop-a-preserved c).In-loop-a) ∙ ap (λ z. pos (nat_abs z * nat_abs z)) (kept (goal.at.loop-a-preserved c).In-loop-a)) (omega arith)

pub returns : goal.returns
returns c =
    let end : c.loop-a.a-index ≡ length c.args.s.now = omega arith in
    (rw end at c.loop-a.invariant) ∙ over-whole _ (λ x. pos (nat_abs (val c.args.s.now x) * nat_abs (val c.args.s.now x))) c.args.s.now refl

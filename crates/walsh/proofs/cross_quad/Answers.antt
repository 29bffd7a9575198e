use mathlib.Core.Path.{◌≡◌, ap, ◌∙◌}
use Prim.Native.Nat.{ℕ, ◌+◌, ◌*◌, ◌≤◌, ◌<◌}
use native.Mathlib.Omega.{arith}
use lib.IntN.{nat_abs}
use lib.ListN.{length-set}
use mir.Syntax.{w32}
use mir.Val.{to_z, of_z}
use Rattle.walsh_laws.specs.Walsh.{most_number}
use Rattle.walsh_laws.specs.Passes.{val, Same, crossed-twice-same, crossed-twice-more}
use Rattle.walsh_laws.specs.Machine.{back, first_fits, first_back, second_fits, second_back, third-fits, third_back, fourth-fits, fourth-back}
use Rattle.walsh.proofs.cross_quad.Goals as goal
use Rattle.walsh.proofs.cross_quad.Goals.{In-loop-j}

-- the four numbers are those that stood there, and the machine has them as they are
module _ (c : goal.In-loop-j) where
  abbrev place : ℕ
  place = c.args.at + c.loop-j.j

  abbrev width : ℕ
  width = c.args.h

  small : (x : ℕ) → place ≤ x → x < c.args.at + 4 * width → nat_abs (val c.args.s.now x) ≤ most_number
  small x a b = c.requires.1 x (omega arith) (omega (arith, c.requires.0))

  read : (x : ℕ) → place ≤ x → x < c.args.at + 4 * width → val c.loop-j.s x ≡ val c.args.s.now x
      → to_z w32 (of_z w32 (val c.loop-j.s x)) ≡ val c.args.s.now x
  read x a b e = ap (λ z. to_z w32 (of_z w32 z)) e ∙ back (val c.args.s.now x) (omega (arith, small x a b))

  same : Same c.args.s.now c.loop-j.s place width
  same = crossed-twice-same c.args.s.now _ _ _ _ c.requires.0 c.loop-j-test.true c.loop-j.invariant

  read_a : to_z w32 (of_z w32 (val c.loop-j.s place)) ≡ val c.args.s.now place
  read_a = read place (omega arith) (omega arith) same.0

  read-b : to_z w32 (of_z w32 (val c.loop-j.s (place + width))) ≡ val c.args.s.now (place + width)
  read-b = read (place + width) (omega arith) (omega arith) same.1

  read-c : to_z w32 (of_z w32 (val c.loop-j.s (place + width + width))) ≡ val c.args.s.now (place + width + width)
  read-c = read (place + width + width) (omega arith) (omega arith) same.2

  read-d : to_z w32 (of_z w32 (val c.loop-j.s (place + width + width + width)))
      ≡ val c.args.s.now (place + width + width + width)
  read-d = read (place + width + width + width) (omega arith) (omega arith) same.3

  few : nat_abs (val c.args.s.now place) + nat_abs (val c.args.s.now (place + width))
      + (nat_abs (val c.args.s.now (place + width + width)) + nat_abs (val c.args.s.now (place + width + width + width)))
      ≤ 4 * most_number
  few =
      omega (
        arith,
        small place (omega arith) (omega arith),
        small (place + width) (omega arith) (omega arith),
        small (place + width + width) (omega arith) (omega arith),
        small (place + width + width + width) (omega arith) (omega arith),
      )

pub overflow_add-s : goal.overflow_add-s
overflow_add-s c = first_fits (read_a (goal.at.overflow_add-s c).In-loop-j) (read-b (goal.at.overflow_add-s c).In-loop-j) (read-c (goal.at.overflow_add-s c).In-loop-j) (read-d (goal.at.overflow_add-s c).In-loop-j) (few (goal.at.overflow_add-s c).In-loop-j)

pub overflow_add-s-in-loop-j : goal.overflow_add-s-in-loop-j
overflow_add-s-in-loop-j c = second_fits (read_a (goal.at.overflow_add-s-in-loop-j c).In-loop-j) (read-b (goal.at.overflow_add-s-in-loop-j c).In-loop-j) (read-c (goal.at.overflow_add-s-in-loop-j c).In-loop-j) (read-d (goal.at.overflow_add-s-in-loop-j c).In-loop-j) (few (goal.at.overflow_add-s-in-loop-j c).In-loop-j)

pub overflow_sub-s : goal.overflow_sub-s
overflow_sub-s c = third-fits (read_a (goal.at.overflow_sub-s c).In-loop-j) (read-b (goal.at.overflow_sub-s c).In-loop-j) (read-c (goal.at.overflow_sub-s c).In-loop-j) (read-d (goal.at.overflow_sub-s c).In-loop-j) (few (goal.at.overflow_sub-s c).In-loop-j)

pub overflow_sub-s-in-loop-j : goal.overflow_sub-s-in-loop-j
overflow_sub-s-in-loop-j c = fourth-fits (read_a (goal.at.overflow_sub-s-in-loop-j c).In-loop-j) (read-b (goal.at.overflow_sub-s-in-loop-j c).In-loop-j) (read-c (goal.at.overflow_sub-s-in-loop-j c).In-loop-j) (read-d (goal.at.overflow_sub-s-in-loop-j c).In-loop-j) (few (goal.at.overflow_sub-s-in-loop-j c).In-loop-j)

pub bounds-s-fourth : goal.bounds-s-fourth
bounds-s-fourth c = simp length-set (omega (arith, c.loop-j.invariant.long))

pub loop-j-preserved : goal.loop-j-preserved
loop-j-preserved c =
    crossed-twice-more c.args.s.now _ _ _ _ c.requires.0 c.loop-j-test.true c.loop-j.invariant _ _ _ _
    (first_back (read_a (goal.at.loop-j-preserved c).In-loop-j) (read-b (goal.at.loop-j-preserved c).In-loop-j) (read-c (goal.at.loop-j-preserved c).In-loop-j) (read-d (goal.at.loop-j-preserved c).In-loop-j) (few (goal.at.loop-j-preserved c).In-loop-j)) (second_back (read_a (goal.at.loop-j-preserved c).In-loop-j) (read-b (goal.at.loop-j-preserved c).In-loop-j) (read-c (goal.at.loop-j-preserved c).In-loop-j) (read-d (goal.at.loop-j-preserved c).In-loop-j) (few (goal.at.loop-j-preserved c).In-loop-j))
    (third_back (read_a (goal.at.loop-j-preserved c).In-loop-j) (read-b (goal.at.loop-j-preserved c).In-loop-j) (read-c (goal.at.loop-j-preserved c).In-loop-j) (read-d (goal.at.loop-j-preserved c).In-loop-j) (few (goal.at.loop-j-preserved c).In-loop-j)) (fourth-back (read_a (goal.at.loop-j-preserved c).In-loop-j) (read-b (goal.at.loop-j-preserved c).In-loop-j) (read-c (goal.at.loop-j-preserved c).In-loop-j) (read-d (goal.at.loop-j-preserved c).In-loop-j) (few (goal.at.loop-j-preserved c).In-loop-j))

use mathlib.Core.Path.{◌≡◌}
use Prim.Native.Nat.{◌+◌, ◌*◌, ◌≤◌}
use native.Mathlib.Omega.{arith}
use lib.IntN.{ℤ, nat_abs}
use mir.Syntax.{w32}
use mir.Val.{to_z, of_z}
use Rattle.walsh_laws.specs.Walsh.{most_number}
use Rattle.walsh_laws.specs.Passes.{val, crossed-more, crossed-small}
use Rattle.walsh_laws.specs.Machine.{back, sum_back, difference-back}
use Rattle.walsh.proofs.cross_block.Goals as goal
use Rattle.walsh.proofs.cross_block.Goals.{In-loop-j}

-- the two numbers of a butterfly
abbrev upper : goal.In-loop-j → ℤ
upper c =
    val c.loop-j.s (c.args.at + c.loop-j.j)

abbrev lower : goal.In-loop-j → ℤ
lower c =
    val c.loop-j.s (c.args.at + c.args.h + c.loop-j.j)

-- the machine has both as they are, and their sum and difference fit
module _ (c : goal.In-loop-j) where
  small : (nat_abs (upper c) ≤ most_number) × (nat_abs (lower c) ≤ most_number)
  small =
      crossed-small c.args.s.now _ _ _ _ c.requires.0 c.loop-j-test.true c.loop-j.invariant c.requires.1

  read_upper : to_z w32 (of_z w32 (upper c)) ≡ upper c
  read_upper = back (upper c) (omega (arith, small.0))

  read_lower : to_z w32 (of_z w32 (lower c)) ≡ lower c
  read_lower = back (lower c) (omega (arith, small.1))

  both : nat_abs (upper c) + nat_abs (lower c) ≤ 4 * most_number
  both = omega (arith, small.0, small.1)

pub loop-j-preserved : goal.loop-j-preserved
loop-j-preserved c =
    let a = c.args in
    crossed-more a.s.now _ _ _ _ _ _ c.requires.0 c.loop-j-test.true c.loop-j.invariant
    (sum_back (read_upper (goal.at.loop-j-preserved c).In-loop-j) (read_lower (goal.at.loop-j-preserved c).In-loop-j) (both (goal.at.loop-j-preserved c).In-loop-j))
    (difference-back (read_upper (goal.at.loop-j-preserved c).In-loop-j) (read_lower (goal.at.loop-j-preserved c).In-loop-j) (both (goal.at.loop-j-preserved c).In-loop-j))

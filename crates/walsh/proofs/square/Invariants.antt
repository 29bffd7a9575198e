-- `walsh::square` meets its contract. The loop's invariant: the numbers before this one are squared. Assumes nothing.
use mathlib.Core.Path.{◌≡◌}
use Prim.Native.Nat.{◌*◌}
use lib.IntN.{pos, nat_abs}
use Rattle.slices.specs.Places.{tab, over}
use Rattle.walsh_laws.specs.Passes.{val}
use Rattle.walsh.proofs.square.Given as goal

abbrev pub invariant-loop-a : goal.invariant-loop-a
invariant-loop-a l = l.s ≡ over (tab l.a-index (λ y. pos (nat_abs (val l.initial.s y) * nat_abs (val l.initial.s y)))) l.initial.s

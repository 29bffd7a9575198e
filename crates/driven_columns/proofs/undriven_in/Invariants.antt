-- `driven_columns::undriven_in` meets its contract. The loop's invariant: every column passed is driven. Assumes nothing.
use Prim.Native.Nat.{ℕ, ◌<◌}
use mathlib.Core.Path.{◌≡◌}
use Rattle.bits.specs.Digits.{bit}
use Rattle.driven_columns.proofs.undriven_in.Given as goal

abbrev pub invariant-loop-j : goal.invariant-loop-j
invariant-loop-j l = (i : ℕ) → i < l.j → bit l.all i ≡ 0 → ⊥

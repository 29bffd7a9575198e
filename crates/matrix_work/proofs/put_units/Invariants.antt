-- `matrix_work::put_units` meets its contract. The loop's invariant: the first j entries are the units. Assumes nothing.
use mathlib.Core.Path.{◌≡◌}
use Prim.Native.Nat.{◌^◌}
use Rattle.slices.specs.Places.{tab, over}
use Rattle.matrix_work.proofs.put_units.Given as goal

abbrev pub invariant-loop-j : goal.invariant-loop-j
invariant-loop-j l = l.s ≡ over (tab l.j (λ i. 2 ^ i)) l.initial.s

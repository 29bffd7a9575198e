-- `matrix_work::put_columns` meets its contract. The loop's invariant: the first j columns are stored. Assumes nothing.
use mathlib.Core.Path.{◌≡◌}
use Prim.Native.Nat.{◌^◌}
use Rattle.slices.specs.Places.{at, tab, over}
use Rattle.block.specs.Basis.{apply}
use Rattle.matrix_work.proofs.put_columns.Given as goal

abbrev pub invariant-loop-j : goal.invariant-loop-j
invariant-loop-j l = l.c ≡ over (tab l.j (λ i. apply (at l.s) l.n (2 ^ i))) l.initial.c

-- `matrix_work::shear_rows` meets its contract. The loop's invariant: the first j rows are done, the rest is as it was. Assumes nothing.
use mathlib.Core.Path.{◌≡◌}
use Rattle.slices.specs.Places.{at, tab, over}
use Rattle.matrix_laws.specs.Reach.{shear_rows}
use Rattle.matrix_work.proofs.shear_rows.Given as goal

abbrev pub invariant-loop-j : goal.invariant-loop-j
invariant-loop-j l = l.s ≡ over (tab l.j (shear_rows l.k l.v (at l.initial.s))) l.initial.s

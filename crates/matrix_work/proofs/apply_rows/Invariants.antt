-- `matrix_work::apply_rows` meets its contract. The loop's invariant: r is the matrix of the first j rows at x. Assumes nothing.
use mathlib.Core.Path.{◌≡◌}
use Rattle.slices.specs.Places.{at}
use Rattle.block.specs.Basis.{apply}
use Rattle.matrix_work.proofs.apply_rows.Given as goal

abbrev pub invariant-loop-j : goal.invariant-loop-j
invariant-loop-j l = l.r ≡ apply (at l.s) l.j l.x

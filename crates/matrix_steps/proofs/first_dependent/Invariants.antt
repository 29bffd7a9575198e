-- `matrix_steps::first_dependent` meets its contract. The loop's invariant: no row before j is an XOR of earlier ones, and the matrix is the one
-- reached by them. Assumes nothing.
use mathlib.Core.Path.{◌≡◌}
use mathlib.Core.Bool.{false}
use Prim.Native.Nat.{ℕ, ◌<◌}
use Rattle.slices.specs.Places.{at, tab, over}
use Rattle.block.specs.Basis.{span}
use Rattle.matrix_laws.specs.Reach.{reach_rows}
use Rattle.matrix_steps.proofs.first_dependent.Given as goal

abbrev pub invariant-loop-j : goal.invariant-loop-j
invariant-loop-j l = ((i : ℕ) → i < l.j → span (at l.rows) i (at l.rows i) ≡ false) × (l.m ≡ over (tab l.n (reach_rows l.n (at l.rows) l.j)) l.initial.m)

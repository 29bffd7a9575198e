-- `choosing::choose_all` meets its contract. The loop's invariant: the first k numbers are those that the rule takes, and the matrix is the
-- one reached by them. Assumes nothing.
use mathlib.Core.Path.{◌≡◌}
use Rattle.slices.specs.Places.{tab, over}
use Rattle.choice_laws.specs.Chosen.{pick}
use Rattle.matrix_laws.specs.Reach.{reach_rows}
use Rattle.walks.specs.Walk.{value_at}
use Rattle.choosing.proofs.choose_all.Given as goal

abbrev pub invariant-loop-k : goal.invariant-loop-k
invariant-loop-k l = (l.basis ≡ over (tab l.k (pick (value_at l.walk l.values l.count) l.n l.w)) l.initial.basis) × (l.sigma ≡ over (tab l.n (reach_rows l.n (pick (value_at l.walk l.values l.count) l.n l.w) l.k)) l.initial.sigma)

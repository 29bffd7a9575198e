-- `join_work::find_nearest` meets its contract. The loop's invariant: no row passed is written as one with row c. Assumes
-- nothing.
use Prim.Native.Nat.{ℕ, ◌<◌}
use mathlib.Core.Path.{◌≡◌}
use mathlib.Core.Bool.{false}
use Rattle.join_work.specs.Found.{joins_at}
use Rattle.join_work.proofs.find_nearest.Given as goal

abbrev pub invariant-loop-q : goal.invariant-loop-q
invariant-loop-q l = (j : ℕ) → j < l.q → joins_at l.masks l.values l.words j l.c ≡ false

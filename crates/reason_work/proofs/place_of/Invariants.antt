-- `reason_work::place_of` meets its contract. The loop's invariant: none of the numbers passed is t. Assumes nothing.
use mathlib.Core.Path.{◌≡◌}
use mathlib.Core.Bool.{false}
use Prim.Native.Nat.{ℕ, ◌<◌}
use lib.Dec.{eqb}
use Rattle.slices.specs.Places.{at}
use Rattle.reason_work.proofs.place_of.Given as goal

abbrev pub invariant-loop-j : goal.invariant-loop-j
invariant-loop-j l = (i : ℕ) → i < l.j → eqb (at l.taken i) l.t ≡ false

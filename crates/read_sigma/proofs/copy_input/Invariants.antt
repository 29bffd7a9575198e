-- `read_sigma::copy_input` meets its contract. The loop's invariant: no input passed is copied. Assumes nothing.
use mathlib.Core.Path.{◌≡◌}
use mathlib.Core.Bool.{false}
use Prim.Native.Nat.{ℕ, ◌<◌}
use Rattle.read_sigma.specs.Rows.{copy_at}
use Rattle.read_sigma.proofs.copy_input.Given as goal

abbrev pub invariant-loop-a : goal.invariant-loop-a
invariant-loop-a l = (j : ℕ) → j < l.a → copy_at l.text l.at l.i j ≡ false

-- `read_sigma::chain_input` meets its contract. The loop's invariant: no chain begins with an input passed. Assumes nothing.
use mathlib.Core.Path.{◌≡◌}
use mathlib.Core.Bool.{false}
use Prim.Native.Nat.{ℕ, ◌<◌}
use Rattle.read_sigma.specs.Rows.{chain_at}
use Rattle.read_sigma.proofs.chain_input.Given as goal

abbrev pub invariant-loop-a : goal.invariant-loop-a
invariant-loop-a l = (j : ℕ) → j < l.a → chain_at l.text l.at l.n l.i j ≡ false

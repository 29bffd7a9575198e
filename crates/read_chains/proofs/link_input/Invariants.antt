-- `read_chains::link_input` meets its contract. The loop's invariant: no input passed fits. Assumes nothing.
use mathlib.Core.Path.{◌≡◌}
use mathlib.Core.Bool.{false}
use Prim.Native.Nat.{ℕ, ◌<◌}
use Rattle.read_chains.specs.Chains.{linked_at}
use Rattle.read_chains.proofs.link_input.Given as goal

abbrev pub invariant-loop-b : goal.invariant-loop-b
invariant-loop-b l = (j : ℕ) → j < l.b → linked_at l.text l.at l.n l.m l.i l.p j ≡ false

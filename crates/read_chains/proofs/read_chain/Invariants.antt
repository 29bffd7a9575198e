-- `read_chains::read_chain` meets its contract. The loop's invariant: the chain has come from the first line to this one with its inputs so
-- far, which more than doubled with each part. The measure is what they can still grow. Assumes nothing.
use mathlib.Core.List.{List}
use Prim.Native.Nat.{ℕ, ◌+◌, ◌-◌, ◌^◌, ◌≤◌, ◌<◌}
use Rattle.read_chains.specs.Chains.{Chaining, Going}
use Rattle.block.specs.ModelRead.{State}
use Rattle.read_chains.proofs.read_chain.Given as goal

abbrev pub invariant-loop-all : goal.invariant-loop-all
invariant-loop-all l = (l.m < 2 ^ l.n) × (2 ^ l.part ≤ l.m + l.m) × (l.part < 17)
    × ((st : ℕ → List ℕ → State) → Chaining l.text l.n l.i l.inputs 1 l.at l.met st → Going l.text l.n l.i st l.at l.m l.part l.from l.begun)

abbrev pub decreases-loop-all : goal.decreases-loop-all
decreases-loop-all l = 2 ^ l.n - l.m

-- `walks::make_walk` meets its contract. The loop's invariant: the walk below t lies at the front, and the rest holds what it held; of
-- the numbers that are passed over none is of the walk.
-- The measure is what is left. Assumes nothing.
use mathlib.Core.Path.{◌≡◌}
use Prim.Native.Nat.{◌≤◌, ◌-◌, ◌^◌}
use Rattle.slices.specs.Laid.{Laid}
use Rattle.walks.specs.Walk.{walk_to}
use Rattle.walks.proofs.make_walk.Given as goal

abbrev pub invariant-loop-t : goal.invariant-loop-t
invariant-loop-t l = (l.t ≤ l.size) × (l.size ≡ 2 ^ l.n) × Laid (walk_to l.w l.t) l.initial.out l.out l.count

abbrev pub decreases-loop-t : goal.decreases-loop-t
decreases-loop-t l = l.size - l.t

-- `light_shifts::put_at` meets its contract. The loop's invariant: the first i entries hold what is due, and the rest what they held.
-- Assumes nothing.
use mathlib.Core.Path.{◌≡◌}
use Prim.Native.Nat.{◌+◌, ◌-◌}
use Rattle.slices.specs.Places.{at, tab, over}
use Rattle.light_shifts.proofs.put_at.Given as goal

abbrev pub invariant-loop-i : goal.invariant-loop-i
invariant-loop-i l = l.out ≡ over (tab l.i (λ j. l.points + at l.acc (at l.ts j) - l.less)) l.initial.out

-- `table_shifts::shifts_at_low` meets its contract. The loop's invariant: the places of this low part before high hold R, where they have at
-- most w one-bits, and those of other low parts what they held. Assumes nothing.
use Prim.Native.Nat.{◌*◌}
use Rattle.block.specs.Words.{of_table}
use Rattle.block.specs.Measure.{shift}
use Rattle.table_shifts.specs.Light.{LowPut}
use Rattle.table_shifts.proofs.shifts_at_low.Given as goal

abbrev pub invariant-loop-high : goal.invariant-loop-high
invariant-loop-high l = LowPut (shift (of_table l.table) l.n) l.w l.low (l.high * 64) l.initial.out l.out

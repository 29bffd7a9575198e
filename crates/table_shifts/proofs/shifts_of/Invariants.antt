-- `table_shifts::shifts_of` meets its contract. The loop's invariant: the places with a low part before low hold R, where they have at most w
-- one-bits. Assumes nothing.
use Prim.Native.Nat.{◌^◌}
use Rattle.block.specs.Words.{of_table}
use Rattle.block.specs.Measure.{shift}
use Rattle.table_shifts.specs.Light.{BelowLow}
use Rattle.table_shifts.proofs.shifts_of.Given as goal

abbrev pub invariant-loop-low : goal.invariant-loop-low
invariant-loop-low l = BelowLow (shift (of_table l.table) l.n) l.w l.low (2 ^ l.n) l.out

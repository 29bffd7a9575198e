-- `table_shifts::put_copy` meets its contract. The loop's invariant: the first y entries are done. Assumes nothing.
use mathlib.Core.Path.{◌≡◌}
use lib.Bits.{bit_xor}
use Rattle.slices.specs.Places.{at, tab, over}
use Rattle.table_words.specs.Matching.{marked}
use Rattle.table_shifts.proofs.put_copy.Given as goal

abbrev pub invariant-loop-y : goal.invariant-loop-y
invariant-loop-y l = l.copy ≡ over (tab l.y (λ y. marked (at l.table (bit_xor y l.low)))) l.initial.copy

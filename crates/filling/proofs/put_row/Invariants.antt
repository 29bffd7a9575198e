-- `filling::put_row` meets its contract. The loop's invariant: the word stands at the points of the parts above `part`, which is itself a
-- part of the free inputs. The measure is the part. Assumes nothing.
use mathlib.Core.Path.{◌≡◌}
use Prim.Native.Nat.{◌+◌}
use lib.Bits.{bit_and}
use Rattle.block.specs.Words.{row}
use Rattle.filling.specs.Points.{free_of, PartsPut}
use Rattle.filling.proofs.put_row.Given as goal

abbrev pub invariant-loop-part : goal.invariant-loop-part
invariant-loop-part l = (l.free ≡ free_of l.n l.mask) × (bit_and (free_of l.n l.mask) l.part ≡ l.part) × PartsPut l.n (row l.mask l.values l.word) (l.part + 1) l.initial.out l.out

abbrev pub decreases-loop-part : goal.decreases-loop-part
decreases-loop-part l = l.part

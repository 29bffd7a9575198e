-- `join_work::join_all` meets its contract. The loop's invariant: the rows so far come to the same list when all are joined, every pair whose
-- first row was seen has the row in it that is looked at, and each freed record is all zeros. The measure is the number of rows and of those
-- not seen. Assumes nothing.
use mathlib.Core.Path.{◌≡◌}
use Prim.Native.Nat.{◌+◌, ◌-◌}
use lib.ListN.{length}
use Rattle.join_work.specs.All.{SoFar}
use Rattle.join_work.proofs.join_all.Given as goal

abbrev pub invariant-loop-count : goal.invariant-loop-count
invariant-loop-count l = (length l.masks ≡ length l.initial.masks) × (length l.values ≡ length l.initial.masks) × (length l.words ≡ length l.initial.masks) × SoFar l.count l.c l.seen l.initial.masks l.initial.values l.initial.words l.masks l.values l.words

abbrev pub decreases-loop-count : goal.decreases-loop-count
decreases-loop-count l = l.count + (l.count - l.seen)

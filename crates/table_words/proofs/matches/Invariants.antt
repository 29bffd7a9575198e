-- `table_words::matches` meets its contract. The loop's invariant: m counts the points before i that match. Assumes nothing.
use Rattle.std.proofs.Common.{◌≡◌, ◌+◌, ◌*◌, eqb}
use Rattle.slices.specs.Places.{at}
use Rattle.sums.specs.Sums.{count}
use Rattle.table_words.proofs.matches.Given as goal

abbrev pub invariant-loop-i : goal.invariant-loop-i
invariant-loop-i l = l.m ≡ count (λ i. eqb (at l.table (l.b * 64 + i)) (at l.copy (l.c * 64 + i))) l.i

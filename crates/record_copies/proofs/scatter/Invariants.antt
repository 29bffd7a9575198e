-- `record_copies::scatter` meets its contract. The loop's invariant: the first i records are copied in. Assumes
-- nothing.
use Rattle.slices.specs.Places.{at}
use Rattle.block.specs.Words.{row}
use Rattle.record_copies.specs.Copied.{Copied}
use Rattle.record_copies.specs.Flat.{zero_row}
use Rattle.record_copies.proofs.scatter.Given as goal

abbrev pub invariant-loop-i : goal.invariant-loop-i
invariant-loop-i l = Copied zero_row (λ k. row (at l.masks k) (at l.values k) (at l.words k)) l.i l.initial.rows l.rows

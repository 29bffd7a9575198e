-- `record_copies::gather` meets its contract. The loop's invariant: the first i records are copied out, and zeros stand after them.
-- Assumes nothing.
use Rattle.block.specs.Refusals.{row_at}
use Rattle.record_copies.specs.Copied.{Copied}
use Rattle.record_copies.specs.Flat.{zeros}
use Rattle.record_copies.proofs.gather.Given as goal

abbrev pub invariant-loop-i : goal.invariant-loop-i
invariant-loop-i l = record {
  of-masks : Copied 0 (λ k. (row_at l.rows k).mask) l.i zeros l.masks;
  of_values : Copied 0 (λ k. (row_at l.rows k).values) l.i zeros l.values;
  of_words : Copied 0 (λ k. (row_at l.rows k).word) l.i zeros l.words;
}

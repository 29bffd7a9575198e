-- `row_splits::split_rows` meets its contract. The loop's invariant: what becomes of the first i rows was added to an empty list.
-- Assumes nothing.
use Prim.Native.Nat.{◌≤◌, ◌*◌}
use Rattle.block.specs.Rows.{split_rows}
use Rattle.flat_rows.specs.Listing.{rows_from}
use Rattle.row_adding.specs.Held.{Added}
use Rattle.row_splits.proofs.split_rows.Given as goal

abbrev pub invariant-loop-i : goal.invariant-loop-i
invariant-loop-i l = (l.count ≤ l.i * 2) × Added 0 (split_rows l.k l.v (rows_from l.i l.masks l.values l.words)) l.initial.out_masks l.initial.out_values l.initial.out_words l.out_masks l.out_values l.out_words l.count

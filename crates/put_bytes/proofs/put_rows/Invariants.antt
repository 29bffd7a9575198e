-- `put_bytes::put_rows` meets its contract. The loop's invariant: the lines of the first i rows are put. Assumes nothing.
use Rattle.block.specs.Text.{row_lines}
use Rattle.flat_rows.specs.Listing.{rows_from}
use Rattle.put_bytes.specs.Puts.{Put}
use Rattle.put_bytes.proofs.put_rows.Given as goal

abbrev pub invariant-loop-i : goal.invariant-loop-i
invariant-loop-i l = Put l.initial.out l.at (row_lines l.n l.k (rows_from l.i l.masks l.values l.words)) l.out l.to

-- `filling::fill_rows` meets its contract. The loop's invariant: the rows from i on are put, on a table that was cleared. Assumes nothing.
use Rattle.block.specs.Words.{rows_of}
use Rattle.filling.specs.Points.{TableFrom}
use Rattle.filling.proofs.fill_rows.Given as goal

abbrev pub invariant-loop-i : goal.invariant-loop-i
invariant-loop-i l = TableFrom l.missing l.n (rows_of l.masks l.values l.words) l.i l.initial.out l.out

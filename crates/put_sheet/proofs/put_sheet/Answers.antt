-- `put_sheet::put_sheet` meets its contract: the four parts, one after the other, are the sheet. Assumes nothing.
use Rattle.std.proofs.Common.{arith, length-append}
use Rattle.put_bytes.specs.Puts.{then}
use Rattle.put_sheet.specs.Lines.{sheet-parts}
use Rattle.put_sheet.proofs.put_sheet.Goals as goal

pub put_front-a-requires : goal.put_front-a-requires
put_front-a-requires c =
    omega (arith, simp length-append at (rw sheet-parts at c.requires.words_in_bounds))

pub put_columns-b-requires : goal.put_columns-b-requires
put_columns-b-requires c =
    omega (arith, simp length-append at (rw sheet-parts at c.requires.words_in_bounds))

pub put_columns-c-requires : goal.put_columns-c-requires
put_columns-c-requires c =
    omega (arith, simp length-append at (rw sheet-parts at c.requires.words_in_bounds))

pub put_table-requires-clause-words_in_bounds : goal.put_table-requires-clause-words_in_bounds
put_table-requires-clause-words_in_bounds c =
    omega (arith, simp length-append at (rw sheet-parts at c.requires.words_in_bounds))

pub returns : goal.returns
returns c =
    rw sheet-parts
    (then (then (then c.put_front-a.ensures c.put_columns-b.ensures) c.put_columns-c.ensures) c.put_table.ensures)

-- `put_sheet::put_table` meets its contract: the first line and the rows, one after the other. Assumes nothing.
use native.Mathlib.Omega.{arith}
use lib.ListN.{length-append}
use Rattle.slices.specs.Filled.{length-tab}
use Rattle.put_bytes.specs.Puts.{then}
use Rattle.put_sheet.specs.Lines.{table_text}
use Rattle.put_sheet.proofs.put_table.Goals as goal

pub put_section-a-requires : goal.put_section-a-requires
unfolding table_text
put_section-a-requires c = omega (arith, simp (length-append, length-tab) at c.requires.words_in_bounds)

pub put_rows-requires-clause-words_in_bounds : goal.put_rows-requires-clause-words_in_bounds
unfolding table_text
put_rows-requires-clause-words_in_bounds c = omega (arith, simp (length-append, length-tab) at c.requires.words_in_bounds)

pub returns : goal.returns
unfolding table_text
returns c = rw length-tab (then c.put_section-a.ensures c.put_rows.ensures)

-- `put_sheet::put_columns` meets its contract: the first line and the matrix, one after the other. Assumes nothing.
use Rattle.put_bytes.specs.Puts.{then}
use Rattle.put_sheet.specs.Lines.{columns_text}
use Rattle.put_sheet.proofs.put_columns.Goals as goal

pub returns : goal.returns
unfolding columns_text
returns c = then c.put_section-a.ensures c.put_matrix.ensures

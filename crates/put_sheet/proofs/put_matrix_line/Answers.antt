-- `put_sheet::put_matrix_line` meets its contract: the bits and LF, one after the other, are the line. Assumes nothing.
use Rattle.put_bytes.specs.Puts.{then}
use Rattle.block.specs.Sheet.{matrix_lines}
use Rattle.put_sheet.proofs.put_matrix_line.Goals as goal

pub returns : goal.returns
unfolding matrix_lines
returns c = then c.put_bits-a.ensures c.put_byte.ensures

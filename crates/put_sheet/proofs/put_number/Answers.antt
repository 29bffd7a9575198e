-- `put_sheet::put_number` meets its contract: the number and LF, one after the other, are the line. Assumes nothing.
use Rattle.put_bytes.specs.Puts.{then}
use Rattle.block.specs.Sheet.{number_lines}
use Rattle.put_sheet.proofs.put_number.Goals as goal

pub returns : goal.returns
unfolding number_lines
returns c = then c.put_decimal-a.ensures c.put_byte.ensures

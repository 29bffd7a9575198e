-- `put_sheet::put_section` meets its contract: the four puts, one after the other, are the line. Assumes nothing.
use Rattle.put_bytes.specs.Puts.{then}
use Rattle.block.specs.Sheet.{section}
use Rattle.put_sheet.proofs.put_section.Goals as goal

pub returns : goal.returns
unfolding section
returns c =
    then (then c.put_bytes-a.ensures (then c.put_byte-b.ensures c.put_decimal-c.ensures)) c.put_byte.ensures

-- `put_bytes::put_row` meets its contract: the four puts, one after the other, are the row's line. Assumes nothing.
use Rattle.put_bytes.specs.Puts.{then}
use Rattle.block.specs.Text.{row_line}
use Rattle.put_bytes.proofs.put_row.Goals as goal

pub returns : goal.returns
unfolding row_line
returns c =
    then (then c.put_symbols-a.ensures (then c.put_byte-b.ensures c.put_bits-c.ensures)) c.put_byte.ensures

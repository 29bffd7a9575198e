-- `put_text::put_heading` meets its contract: the five puts, one after the other, are the heading. Assumes nothing.
use Rattle.put_bytes.specs.Puts.{then}
use Rattle.block.specs.Text.{head_line}
use Rattle.put_text.proofs.put_heading.Goals as goal

pub returns : goal.returns
unfolding head_line
returns c =
    then
    (then c.put_byte-a.ensures (then c.put_byte-b.ensures (then c.put_byte-c.ensures c.put_decimal-d.ensures)))
    c.put_byte.ensures

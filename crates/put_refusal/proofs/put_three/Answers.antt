-- `put_refusal::put_three` meets its contract: the six puts, one after the other, are the text. Assumes nothing.
use Rattle.put_bytes.specs.Puts.{then}
use Rattle.put_refusal.proofs.put_three.Goals as goal

pub returns : goal.returns
returns c =
    then
    (then (then c.put_bytes-c.ensures c.put_decimal-d.ensures) (then c.put_byte-e.ensures c.put_decimal-f.ensures))
    (then c.put_byte-g.ensures c.put_decimal.ensures)

-- `put_refusal::put_refusal` meets its contract: the words, and LF after them. Assumes nothing.
use Rattle.put_bytes.specs.Puts.{then}
use Rattle.block.specs.Sheet.{refusal_line}
use Rattle.put_refusal.proofs.put_refusal.Goals as goal

pub returns : goal.returns
unfolding refusal_line
returns c = then c.put_three-c.ensures c.put_byte.ensures

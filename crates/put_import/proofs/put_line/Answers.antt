-- `put_import::put_line` meets its contract: the name, a space and the words, one after the other, are the line. Assumes nothing.
use Rattle.put_bytes.specs.Puts.{then}
use Rattle.put_import.specs.Line.{import_line}
use Rattle.put_import.proofs.put_line.Goals as goal

pub returns : goal.returns
unfolding import_line
returns c = then c.put_name-c.ensures (then c.put_byte-d.ensures c.put_words.ensures)

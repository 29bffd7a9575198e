-- `row_halves::flip_row` meets its contract: the values by what the calls ensure. Assumes nothing.
use Rattle.row_halves.proofs.flip_row.Goals as goal

pub returns : goal.returns
returns c = rw (c.xor_where.ensures, c.bit_of-d.ensures)

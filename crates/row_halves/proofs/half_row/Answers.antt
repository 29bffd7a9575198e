-- `row_halves::half_row` meets its contract: mask and values by what the calls ensure. Assumes nothing.
use Rattle.row_halves.proofs.half_row.Goals as goal

pub returns : goal.returns
returns c = rw (c.xor_where.ensures, c.power-place.ensures)

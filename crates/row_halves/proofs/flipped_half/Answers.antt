-- `row_halves::flipped_half` meets its contract: the flips of the half. Assumes nothing.
use mathlib.Core.Path.{ap, ◌∙◌}
use Rattle.block.specs.Rows.{flip_row}
use Rattle.row_halves.proofs.flipped_half.Goals as goal

pub returns : goal.returns
returns c =
    let a = c.args in
    c.flip_row.ensures ∙ ap (flip_row a.k a.v) c.half_row-h.ensures

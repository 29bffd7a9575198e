-- `row_adding::add_split` meets its contract: a row that falls into two is added half by half, any other once. Assumes nothing.
use mathlib.Core.Path.{sym, ◌∙◌}
use Rattle.row_halves.specs.Halves.{split-two, split_one}
use Rattle.row_adding.specs.Held.{added_then}
use Rattle.row_adding.proofs.add_split.Goals as goal

pub returns-then-is_split : goal.returns-then-is_split
returns-then-is_split c =
    let a = c.args in
    rw (
      split-two a.k a.v a.r (sym c.is_split.ensures ∙ c.if-is_split.true),
      sym c.flipped_half-first.ensures,
      sym c.flipped_half-second.ensures,
    )
    (added_then c.add_row-next.ensures c.add_row.ensures)

pub returns : goal.returns
returns c =
    let a = c.args in
    rw (
      split_one a.k a.v a.r (sym c.is_split.ensures ∙ c.if-is_split.false),
      sym c.flip_row-s.ensures,
    )
    c.add_row-2.ensures

-- `row_splits::step_rows` meets its contract: the exchange and the splits are the step, and the new rows are copied back. Assumes
-- nothing.
use mathlib.Core.Path.{sym, ap, ◌∙◌}
use native.Mathlib.Omega.{arith}
use lib.ListN.{length}
use Rattle.block.specs.Rows.{split_rows}
use Rattle.row_adding.specs.Held.{held-past, held-copied, rows-exchanged}
use Rattle.row_splits.proofs.step_rows.Goals as goal

pub returns-then-count-le-SMALLER_ROWS : goal.returns-then-count-le-SMALLER_ROWS
returns-then-count-le-SMALLER_ROWS c =
    let a = c.args in
    let e = ap (split_rows a.k a.v)
    (rows-exchanged a.p a.k a.h a.masks.now a.values.now a.words.now _ _
    c.exchange_each.ensures c.exchange_each-2.ensures) in
    let s = c.split_rows-count in record {
      value = s.ensures.value ∙ ap length e;
      held = rw (sym e)
          (held-copied _ _ _ _ _ _ _ _ _ _ _ s.ensures.held s.ensures.value
          c.copy_first.ensures c.copy_first-then-count-le-SMALLER_ROWS.ensures c.copy_first-then-count-le-SMALLER_ROWS-2.ensures);
    }

pub returns-else-count-le-SMALLER_ROWS : goal.returns-else-count-le-SMALLER_ROWS
returns-else-count-le-SMALLER_ROWS c =
    let a = c.args in
    let e = ap (split_rows a.k a.v)
    (rows-exchanged a.p a.k a.h a.masks.now a.values.now a.words.now _ _
    c.exchange_each.ensures c.exchange_each-2.ensures) in
    let s = c.split_rows-count in
    record {
      value = s.ensures.value ∙ ap length e;
      held = held-past _ _ _ _ (omega (arith, s.ensures.value ∙ ap length e));
    }

-- `flat_rows::row_count` meets its contract by the three laws on the length of such a list. Assumes nothing.
use mathlib.Core.Path.{sym}
use Rattle.flat_rows.specs.Listing.{no_rows, no_words, rows-count}
use Rattle.flat_rows.proofs.row_count.Goals as goal

pub returns-then-values-masks : goal.returns-then-values-masks
returns-then-values-masks c = sym (no_rows _ _ _ c.if-values-masks.true)

pub returns-then-words-masks : goal.returns-then-words-masks
returns-then-words-masks c = sym (no_words _ _ _ c.if-values-masks.false c.if-words-masks.true)

pub returns : goal.returns
returns c = sym (rows-count _ _ _ c.if-values-masks.false c.if-words-masks.false)

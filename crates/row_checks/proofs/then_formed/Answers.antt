-- `row_checks::then_formed` meets its contract: the earlier refusal, or 6. Assumes nothing.
use mathlib.Core.Path.{◌∙◌}
use Rattle.block.specs.Limits.{smaller_rows}
use Rattle.refusal_laws.specs.Verdicts.{then-refused, then-answered}
use Rattle.flat_rows.specs.Listing.{listed-rows}
use Rattle.row_checks.proofs.then_formed.Goals as goal

pub returns-then-v-ne0 : goal.returns-then-v-ne0
returns-then-v-ne0 c = then-refused _ _ c.if-v-ne0.true

pub rows_formed-requires : goal.rows_formed-requires
rows_formed-requires c =
    let p = c.requires c.if-v-ne0.false in
    (p.size.1, p.columns.1, listed-rows smaller_rows c.args.masks.now c.args.values.now c.args.words.now p.count)

pub returns : goal.returns
returns c = c.rows_formed.ensures ∙ then-answered _ _ c.if-v-ne0.false

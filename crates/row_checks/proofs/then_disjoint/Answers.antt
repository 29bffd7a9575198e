-- `row_checks::then_disjoint` meets its contract: the earlier refusal, or 6 and then 7, whose search is told that no row is
-- malformed. Assumes nothing.
use mathlib.Core.Path.{refl, ◌∙◌}
use Rattle.block.specs.Limits.{smaller_rows}
use Rattle.block.specs.Words.{rows_of}
use Rattle.refusal_laws.specs.Verdicts.{zero-too, then-refused, then-answered, asked-then}
use Rattle.flat_rows.specs.Listing.{listed-rows}
use Rattle.answered_laws.specs.Passed.{formed-sound}
use Rattle.row_checks.proofs.then_disjoint.Goals as goal

pub returns-then-v-ne0 : goal.returns-then-v-ne0
returns-then-v-ne0 c = then-refused _ _ c.if-v-ne0.true

pub rows_formed-formed-requires : goal.rows_formed-formed-requires
rows_formed-formed-requires c =
    let p = c.requires c.if-v-ne0.false in
    (p.size.1, p.columns.1, listed-rows smaller_rows c.args.masks.now c.args.values.now c.args.words.now p.count)

pub then_apart-requires : goal.then_apart-requires
then_apart-requires c =
    let p = c.requires c.if-v-ne0.false in
    (listed-rows smaller_rows c.args.masks.now c.args.values.now c.args.words.now p.count).values-too

pub returns : goal.returns
returns c =
    let a = c.args in
    let formed = c.rows_formed-formed in
    let zero = c.if-v-ne0.false in
    let l = listed-rows smaller_rows a.masks.now a.values.now a.words.now (c.requires zero).count in
    let apart =
    c.then_apart.ensures a.n a.words.now l.words-too
    (λ h.
    formed-sound a.n a.k (rows_of a.masks.now a.values.now a.words.now)
    (zero-too formed.ensures h)) in
    (asked-then _ _ (record { numbered = (refl, tt); told = formed.ensures }) (refl, tt) apart).told ∙ then-answered _ _ zero

-- `row_checks::then_rows` meets its contract: 6 and 7 after the earlier answer, and then 11. Assumes nothing.
use native.Mathlib.Omega.{arith}
use Rattle.block.specs.Limits.{smaller_rows}
use Rattle.block.specs.Words.{rows_of}
use Rattle.refusal_laws.specs.Verdicts.{zero-too, then-zero}
use Rattle.flat_rows.specs.Listing.{rows_words, listed-rows}
use Rattle.row_checks.specs.Steps.{rows-verdict}
use Rattle.row_checks.proofs.then_rows.Goals as goal

pub then_disjoint-apart-requires : goal.then_disjoint-apart-requires
then_disjoint-apart-requires c = c.requires

pub then_driven-requires : goal.then_driven-requires
then_driven-requires c h = omega (arith, (c.requires (then-zero _ _ (zero-too c.then_disjoint-apart.ensures h))).columns.1)

pub returns : goal.returns
returns c =
    let a = c.args in
    rows-verdict a.n a.k (rows_of a.masks.now a.values.now a.words.now) a.words.now _ _ _
    (λ zero.
    let l = listed-rows smaller_rows a.masks.now a.values.now a.words.now (c.requires zero).count in
    rows_words a.masks.now a.values.now a.words.now l.values-too l.words-too)
    c.then_disjoint-apart.ensures c.then_driven.ensures

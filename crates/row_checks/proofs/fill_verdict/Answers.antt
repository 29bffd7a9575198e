-- `row_checks::fill_verdict` meets its contract: its checks step by step. Assumes nothing.
use Rattle.block.specs.Words.{rows_of}
use Rattle.row_checks.specs.Steps as steps
use Rattle.row_checks.proofs.fill_verdict.Goals as goal

pub then_rows-requires : goal.then_rows-requires
then_rows-requires c =
    let a = c.args in
    steps.fill-in-range a.n a.k a.block_type (rows_of a.masks.now a.values.now a.words.now) a.room _ c.size_of.ensures _ _ _
    c.sizes-sizes.ensures c.then_count-count.ensures c.then_where-lent.ensures

pub returns : goal.returns
returns c =
    let a = c.args in
    steps.fill-verdict a.n a.k a.block_type (rows_of a.masks.now a.values.now a.words.now) a.room _ c.size_of.ensures _ _ _
    c.sizes-sizes.ensures c.then_count-count.ensures c.then_where-lent.ensures _ c.then_rows.ensures

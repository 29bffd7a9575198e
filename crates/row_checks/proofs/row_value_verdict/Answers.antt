-- `row_checks::row_value_verdict` meets its contract: its checks step by step. Assumes nothing.
use Rattle.block.specs.Words.{rows_of}
use Rattle.row_checks.specs.Steps.{value-in-range, value-verdict}
use Rattle.row_checks.proofs.row_value_verdict.Goals as goal

pub then_rows-requires : goal.then_rows-requires
then_rows-requires c =
    let a = c.args in
    value-in-range a.n a.k a.block_type a.t (rows_of a.masks.now a.values.now a.words.now) _ c.size_of.ensures _ _ _
    c.sizes-sizes.ensures c.then_where-point.ensures c.then_count-count.ensures

pub returns : goal.returns
returns c =
    let a = c.args in
    value-verdict a.n a.k a.block_type a.t (rows_of a.masks.now a.values.now a.words.now) _ c.size_of.ensures _ _ _
    c.sizes-sizes.ensures c.then_where-point.ensures c.then_count-count.ensures _ c.then_rows.ensures

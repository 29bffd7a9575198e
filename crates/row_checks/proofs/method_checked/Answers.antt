-- `row_checks::method_checked` meets its contract: its checks step by step. Assumes nothing.
use Rattle.block.specs.Words.{rows_of}
use Rattle.row_checks.specs.Steps.{method-in-range, method-verdict}
use Rattle.row_checks.proofs.method_checked.Goals as goal

pub then_rows-requires : goal.then_rows-requires
then_rows-requires c =
    let a = c.args in
    method-in-range a.n a.k a.block_type a.w (rows_of a.masks.now a.values.now a.words.now) a.short _ c.is_outside.ensures
    _ _ _ _ c.sizes-sizes.ensures c.then_where-weight.ensures c.then_count-count.ensures c.then_where-lent.ensures

pub returns : goal.returns
returns c =
    let a = c.args in
    method-verdict a.n a.k a.block_type a.w (rows_of a.masks.now a.values.now a.words.now) a.short _ c.is_outside.ensures
    _ _ _ _ c.sizes-sizes.ensures c.then_where-weight.ensures c.then_count-count.ensures c.then_where-lent.ensures _
    c.then_rows.ensures

-- `row_checks::why_verdict` meets its contract: its checks step by step. Assumes nothing.
use Rattle.block.specs.Words.{rows_of}
use Rattle.row_checks.specs.Steps.{why-in-range, why-verdict}
use Rattle.row_checks.proofs.why_verdict.Goals as goal

pub then_rows-requires : goal.then_rows-requires
then_rows-requires c =
    let a = c.args in
    why-in-range a.n a.k a.block_type a.w a.t (rows_of a.masks.now a.values.now a.words.now) _ c.is_outside.ensures _
    c.size_of.ensures _ _ _ _ c.sizes-sizes.ensures c.then_where-weight.ensures c.then_where-point.ensures c.then_count-count.ensures

pub returns : goal.returns
returns c =
    let a = c.args in
    why-verdict a.n a.k a.block_type a.w a.t (rows_of a.masks.now a.values.now a.words.now) _ c.is_outside.ensures _
    c.size_of.ensures _ _ _ _ c.sizes-sizes.ensures c.then_where-weight.ensures c.then_where-point.ensures c.then_count-count.ensures _
    c.then_rows.ensures

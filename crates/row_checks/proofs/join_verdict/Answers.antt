-- `row_checks::join_verdict` meets its contract: its checks step by step. Assumes nothing.
use Rattle.block.specs.Words.{rows_of}
use Rattle.row_checks.specs.Steps as steps
use Rattle.row_checks.proofs.join_verdict.Goals as goal

pub then_disjoint-requires : goal.then_disjoint-requires
then_disjoint-requires c =
    let a = c.args in
    steps.join-in-range a.n a.k (rows_of a.masks.now a.values.now a.words.now) _ _ c.sizes-sizes.ensures c.then_count-count.ensures

pub returns : goal.returns
returns c =
    let a = c.args in
    steps.join-verdict a.n a.k (rows_of a.masks.now a.values.now a.words.now) _ _ c.sizes-sizes.ensures
    c.then_count-count.ensures _ c.then_disjoint.ensures

-- `row_checks::disjoin_checked` meets its contract: its checks step by step. Assumes nothing.
use Rattle.block.specs.Words.{rows_of}
use Rattle.row_checks.specs.Steps as steps
use Rattle.row_checks.proofs.disjoin_checked.Goals as goal

pub then_formed-requires : goal.then_formed-requires
then_formed-requires c =
    let a = c.args in
    steps.disjoin-in-range a.n a.k (rows_of a.masks.now a.values.now a.words.now) a.room _ _ _ c.sizes-size.ensures
    c.then_count-count.ensures c.then_where-lent.ensures

pub returns : goal.returns
returns c =
    let a = c.args in
    steps.disjoin-checks a.n a.k (rows_of a.masks.now a.values.now a.words.now) a.room _ _ _ c.sizes-size.ensures
    c.then_count-count.ensures c.then_where-lent.ensures _ c.then_formed.ensures

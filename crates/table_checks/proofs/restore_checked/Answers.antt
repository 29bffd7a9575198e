-- `table_checks::restore_checked` meets its contract: its checks step by step. Assumes nothing.
use Rattle.table_checks.specs.Steps.{restore-inputs, restore-outputs, restore-verdict}
use Rattle.table_checks.proofs.restore_checked.Goals as goal

pub then_matrix-rows-requires : goal.then_matrix-rows-requires
then_matrix-rows-requires c =
    let a = c.args in
    restore-inputs a.n a.k a.block_type _ a.table.now c.size_of-size.ensures a.sigma.now a.room _ c.is_unfit-unfit.ensures _ _ _
    c.sizes-sizes.ensures c.then_where-whole.ensures c.then_where-lent.ensures

pub then_entries-requires : goal.then_entries-requires
then_entries-requires c =
    let a = c.args in
    restore-outputs a.n a.k a.block_type _ a.table.now c.size_of-size.ensures a.sigma.now a.room _ c.is_unfit-unfit.ensures _ _ _
    c.sizes-sizes.ensures c.then_where-whole.ensures c.then_where-lent.ensures _ c.then_matrix-rows.ensures

pub returns : goal.returns
returns c =
    let a = c.args in
    restore-verdict a.n a.k a.block_type _ a.table.now c.size_of-size.ensures a.sigma.now a.room _ c.is_unfit-unfit.ensures _ _ _
    c.sizes-sizes.ensures c.then_where-whole.ensures c.then_where-lent.ensures _ c.then_matrix-rows.ensures _ c.then_entries.ensures

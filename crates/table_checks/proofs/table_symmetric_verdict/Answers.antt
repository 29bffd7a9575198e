-- `table_checks::table_symmetric_verdict` meets its contract: its checks step by step. Assumes nothing.
use Rattle.table_checks.specs.Steps.{symmetric-outputs, symmetric-verdict}
use Rattle.table_checks.proofs.table_symmetric_verdict.Goals as goal

pub then_entries-requires : goal.then_entries-requires
then_entries-requires c =
    let a = c.args in
    symmetric-outputs a.n a.k a.block_type _ a.table.now c.size_of-size.ensures _ _ c.sizes-sizes.ensures c.then_where-whole.ensures

pub returns : goal.returns
returns c =
    let a = c.args in
    symmetric-verdict a.n a.k a.block_type _ a.table.now c.size_of-size.ensures _ _ c.sizes-sizes.ensures c.then_where-whole.ensures _
    c.then_entries.ensures

-- `table_checks::table_value_verdict` meets its contract: its checks step by step. Assumes nothing.
use Rattle.table_checks.specs.Steps.{value-outputs, value-verdict}
use Rattle.table_checks.proofs.table_value_verdict.Goals as goal

pub then_entries-requires : goal.then_entries-requires
then_entries-requires c =
    let a = c.args in
    value-outputs a.n a.k a.block_type _ a.table.now c.size_of-size.ensures a.t _ _ _ c.sizes-sizes.ensures c.then_where-point.ensures
    c.then_where-whole.ensures

pub returns : goal.returns
returns c =
    let a = c.args in
    value-verdict a.n a.k a.block_type _ a.table.now c.size_of-size.ensures a.t _ _ _ c.sizes-sizes.ensures c.then_where-point.ensures
    c.then_where-whole.ensures _ c.then_entries.ensures

-- `table_checks::table_method_verdict` meets its contract: its checks step by step. Assumes nothing.
use Rattle.table_checks.specs.Steps.{method-outputs, method-verdict}
use Rattle.table_checks.proofs.table_method_verdict.Goals as goal

pub then_entries-requires : goal.then_entries-requires
then_entries-requires c =
    let a = c.args in
    method-outputs a.n a.k a.block_type _ a.table.now c.size_of-size.ensures a.w a.room_t a.room_sigma a.room_table _ _
    c.is_outside.ensures c.is_short-short.ensures _ _ _ _ c.sizes-sizes.ensures c.then_where-weight.ensures
    c.then_where-whole.ensures c.then_where-lent.ensures

pub returns : goal.returns
returns c =
    let a = c.args in
    method-verdict a.n a.k a.block_type _ a.table.now c.size_of-size.ensures a.w a.room_t a.room_sigma a.room_table _ _
    c.is_outside.ensures c.is_short-short.ensures _ _ _ _ c.sizes-sizes.ensures c.then_where-weight.ensures
    c.then_where-whole.ensures c.then_where-lent.ensures _ c.then_entries.ensures

-- `table_checks::symmetric_verdict` meets its contract: its checks step by step. Assumes nothing.
use Rattle.block.specs.Symmetric.{symmetric_verdict}
use Rattle.table_checks.specs.Steps.{rooms-outputs, rooms-verdict}
use Rattle.table_checks.proofs.symmetric_verdict.Goals as goal

pub then_entries-requires : goal.then_entries-requires
then_entries-requires c =
    let a = c.args in
    rooms-outputs a.n a.k a.block_type _ a.words.now c.size_of-size.ensures _ _ (λ e. c.is_other_count-other.ensures) a.room_table
    a.room_smaller _ c.is_either_short-short.ensures _ _ _ c.sizes-sizes.ensures c.then_where-whole.ensures c.then_where-lent.ensures

pub returns : goal.returns
unfolding symmetric_verdict
returns c =
    let a = c.args in
    rooms-verdict a.n a.k a.block_type _ a.words.now c.size_of-size.ensures _ _ (λ e. c.is_other_count-other.ensures) a.room_table
    a.room_smaller _ c.is_either_short-short.ensures _ _ _ c.sizes-sizes.ensures c.then_where-whole.ensures c.then_where-lent.ensures _
    c.then_entries.ensures

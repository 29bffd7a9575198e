-- `table_checks::spectrum_verdict` meets its contract: its checks step by step. Assumes nothing.
use mathlib.Core.Path.{ap}
use mathlib.Core.Bool.{not}
use Prim.Native.Nat.{ℕ}
use lib.Dec.{eqb}
use lib.ListN.{length}
use Rattle.block.specs.Tables.{spectrum_verdict}
use Rattle.table_checks.specs.Steps.{rooms-outputs, rooms-verdict}
use Rattle.table_checks.proofs.spectrum_verdict.Goals as goal

pub then_entries-requires : goal.then_entries-requires
then_entries-requires c =
    let a = c.args in
    rooms-outputs a.n a.k a.block_type _ a.table.now c.size_of-size.ensures _ _ (ap (λ (p : ℕ). not (eqb (length a.table.now) p)))
    a.room_values a.room_working _
    c.is_either_short-short.ensures _ _ _ c.sizes-sizes.ensures c.then_where-whole.ensures c.then_where-lent.ensures

pub returns : goal.returns
unfolding spectrum_verdict
returns c =
    let a = c.args in
    rooms-verdict a.n a.k a.block_type _ a.table.now c.size_of-size.ensures _ _ (ap (λ (p : ℕ). not (eqb (length a.table.now) p)))
    a.room_values a.room_working _
    c.is_either_short-short.ensures _ _ _ c.sizes-sizes.ensures c.then_where-whole.ensures c.then_where-lent.ensures _
    c.then_entries.ensures

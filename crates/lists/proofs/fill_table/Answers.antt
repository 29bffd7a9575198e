-- `lists::fill_table` meets its contract. A refusal leaves the table alone; on 0 every check passed, so that the table has room,
-- each row is well formed and each word fits an entry. Assumes nothing.
use Prim.Native.Nat.{◌<◌}
use native.Mathlib.Omega.{arith}
use borrow.Author.Tests.{eq-eqb, ne_eqb}
use lib.ListN.{length}
use Rattle.block.specs.Limits.{table_inputs, smaller_rows}
use Rattle.shared_checks.specs.Sizes.{either-word}
use Rattle.flat_rows.specs.Listing.{listed-rows}
use Rattle.row_checks.specs.Checked.{fill-checked, checked-words}
use Rattle.lists.proofs.fill_table.Goals as goal

pub returns-then-v-ne0 : goal.returns-then-v-ne0
returns-then-v-ne0 c =
    let e = c.fill_verdict-v.ensures in
    record { answer = e; table = rw (← e, ne_eqb _ _ c.if-v-ne0.true) }

pub fill_rows-requires : goal.fill_rows-requires
fill_rows-requires c =
    let a = c.args in
    let w = fill-checked a.n a.k a.block_type a.masks.now a.values.now a.words.now (length a.table.now) _
    c.fill_verdict-v.ensures c.if-v-ne0.false in record {
      n_le_table_inputs = (w.0.range.size.1, w.1, listed-rows smaller_rows _ _ _ w.0.range.count);
      every = w.0.disjoint.sound;
      missing_bound = (
        omega (arith, c.missing_word-missing.ensures, either-word (λ m. m < 65536) (omega arith) (omega arith) a.block_type),
        checked-words table_inputs smaller_rows a.n a.k a.masks.now a.values.now a.words.now w.0,
      );
    }

pub returns : goal.returns
returns c =
    let e = c.fill_verdict-v.ensures in
    record { answer = e; table = rw (← e, eq-eqb _ _ c.if-v-ne0.false, ← c.missing_word-missing.ensures) c.fill_rows.ensures }

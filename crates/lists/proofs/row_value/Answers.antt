-- `lists::row_value` meets its contract. On 0 every check passed, so that the rows are disjoint, and the value is R. Assumes
-- nothing.
use native.Mathlib.Omega.{arith}
use borrow.Author.Tests.{eq-eqb, ne_eqb}
use lib.Pow.{pow_mono}
use Rattle.block.specs.Limits.{smaller_rows}
use Rattle.block.specs.Lists.{row_value}
use Rattle.flat_rows.specs.Listing.{listed-rows}
use Rattle.row_checks.specs.Checked.{value-checked}
use Rattle.lists.proofs.row_value.Goals as goal

pub returns-then-v-ne0 : goal.returns-then-v-ne0
unfolding row_value
returns-then-v-ne0 c = record { answer = rw (c.from.ensures, ← c.row_value_verdict-v.ensures, ne_eqb _ _ c.if-v-ne0.true) }

pub overflow_cast-t : goal.overflow_cast-t
overflow_cast-t c =
    let a = c.args in
    let w = value-checked a.n a.k a.block_type a.t a.masks.now a.values.now a.words.now _
    c.row_value_verdict-v.ensures c.if-v-ne0.false in
    omega (arith, w.1, pow_mono w.0.range.size.1)

pub shift_of_rows-value-requires : goal.shift_of_rows-value-requires
shift_of_rows-value-requires c =
    let a = c.args in
    let w = value-checked a.n a.k a.block_type a.t a.masks.now a.values.now a.words.now _
    c.row_value_verdict-v.ensures c.if-v-ne0.false in
    record {
      n_le_list_inputs = (w.0.range.size.1, w.1, listed-rows smaller_rows _ _ _ (omega (arith, w.0.range.count.0), omega (arith, w.0.range.count.1)));
      disjoint = w.0.disjoint;
    }

pub returns : goal.returns
unfolding row_value
returns c =
    record {
      answer = rw (
        c.from-2.ensures,
        ← c.row_value_verdict-v.ensures,
        eq-eqb _ _ c.if-v-ne0.false,
        c.shift_of_rows-value.ensures,
        c.missing_word-missing.ensures,
      );
    }

-- `row_work::method_rows` meets its contract: the checks before 9, then the work, which says 9 or 0. Assumes nothing.
use native.Mathlib.Omega.{arith}
use Rattle.block.specs.Limits.{given_rows}
use Rattle.block.specs.Words.{rows_of}
use Rattle.refusal_laws.specs.Verdicts.{zero-too}
use Rattle.flat_rows.specs.Listing.{listed-rows}
use Rattle.answered_laws.specs.Passed.{method-passed}
use Rattle.row_work.specs.Method.{method-refused, method-stopped, method-made}
use Rattle.row_work.proofs.method_rows.Goals as goal

pub returns-then-v-ne0 : goal.returns-then-v-ne0
returns-then-v-ne0 c =
    let a = c.args in
    rw c.from.ensures (method-refused a.n a.k a.block_type a.w (rows_of a.masks.now a.values.now a.words.now) a.short a.basis.now a.sigma.now
    a.out_masks.now a.out_values.now a.out_words.now _ c.method_checked-v.ensures
    (λ e. omega (arith, c.if-v-ne0.true)))

pub work_rows-done-requires : goal.work_rows-done-requires
work_rows-done-requires c =
    let a = c.args in
    let p =
    method-passed a.n a.k a.block_type a.w (rows_of a.masks.now a.values.now a.words.now) a.short
    (zero-too c.method_checked-v.ensures (omega (arith, c.if-v-ne0.false))) in
    let size = p.list.range.size.1 in
    let lent = c.requires p.room size in
    let listed = listed-rows given_rows a.masks.now a.values.now a.words.now p.list.range.count in
    record {
      n_le_list_inputs = (size, p.weight.0, p.weight.1, lent.0, lent.1);
      smaller_rows_in_bounds = (lent.2, lent.3, lent.4);
      listed = listed;
      disjoint = p.list.disjoint;
    }

pub returns-then-done-ne0 : goal.returns-then-done-ne0
returns-then-done-ne0 c =
    let a = c.args in
    method-stopped a.n a.k a.block_type a.w (rows_of a.masks.now a.values.now a.words.now) a.short a.basis.now a.sigma.now
    a.out_masks.now a.out_values.now a.out_words.now _ c.method_checked-v.ensures c.if-v-ne0.false _ _ _ _ _ _ _
    c.missing_word-missing.ensures c.work_rows-done.ensures c.if-done-ne0.true

pub returns : goal.returns
returns c =
    let a = c.args in
    method-made a.n a.k a.block_type a.w (rows_of a.masks.now a.values.now a.words.now) a.short a.basis.now a.sigma.now
    a.out_masks.now a.out_values.now a.out_words.now _ c.method_checked-v.ensures c.if-v-ne0.false _ _ _ _ _ _ _
    c.missing_word-missing.ensures c.work_rows-done.ensures c.if-done-ne0.false

-- `put_text::write_checks` meets its contract: its checks in their order, the sizes and the type in one part. Where rows are looked at, n, k and
-- their number are in range, and the slices have one length. Assumes nothing.
use mathlib.Core.Path.{refl, sym, ap, ◌∙◌}
use native.Mathlib.Omega.{arith}
use borrow.Author.Tests.{lt-ltb, le-ltb}
use Rattle.block.specs.Limits.{list_inputs, given_rows}
use Rattle.block.specs.Refusals.{outside}
use Rattle.block.specs.Words.{rows_of}
use Rattle.block.specs.Text.{write_verdict}
use Rattle.refusal_laws.specs.Verdicts.{verdict-hit, verdict-miss, zero-too, part-refuses, part-passes}
use Rattle.shared_checks.specs.Sizes.{inside, sizes-pass}
use Rattle.put_text.specs.Checks.{bad-check}
use Rattle.flat_rows.specs.Listing.{rows-count, equal-lengths}
use Rattle.put_text.proofs.write_checks.Goals as goal

pub returns-then-size-ne0 : goal.returns-then-size-ne0
unfolding write_verdict
returns-then-size-ne0 c = part-refuses _ _ _ c.type_checks-size.ensures c.if-size-ne0.true

pub returns-then-is_outside : goal.returns-then-is_outside
unfolding write_verdict
returns-then-is_outside c =
    let out = ap (outside 1 given_rows) (sym c.row_count-count.ensures) ∙ sym c.is_outside.ensures ∙ c.if-is_outside.true in
    c.refuse.ensures ∙ sym (verdict-hit _ _ out)
    ∙ part-passes _ _ _ c.type_checks-size.ensures (refl, (refl, (refl, (refl, tt)))) c.if-size-ne0.false

pub returns-then-room-lt-TEXT_ROOM : goal.returns-then-room-lt-TEXT_ROOM
unfolding write_verdict
returns-then-room-lt-TEXT_ROOM c =
    let out = ap (outside 1 given_rows) (sym c.row_count-count.ensures) ∙ sym c.is_outside.ensures ∙ c.if-is_outside.false in
    c.refuse-then-room-lt-TEXT_ROOM.ensures ∙ sym (verdict-miss _ _ out ∙ verdict-hit _ _ (lt-ltb _ _ c.if-room-lt-TEXT_ROOM.true))
    ∙ part-passes _ _ _ c.type_checks-size.ensures (refl, (refl, (refl, (refl, tt)))) c.if-size-ne0.false

pub first_bad_row-bad-requires : goal.first_bad_row-bad-requires
first_bad_row-bad-requires c =
    let a = c.args in
    let w = (sizes-pass list_inputs a.n a.k a.block_type _ (zero-too c.type_checks-size.ensures c.if-size-ne0.false)).0 in
    let p = inside 1 given_rows c.row_count-count.result (sym c.is_outside.ensures ∙ c.if-is_outside.false) in
    let e = equal-lengths a.masks.now a.values.now a.words.now (omega (arith, c.row_count-count.ensures)) in
    let l = rows-count a.masks.now a.values.now a.words.now e.0 e.1 in
    record {
      n_le_list_inputs = (w.0.1, w.1.1, omega (arith, c.row_count-count.ensures));
      values_len = e;
    }

pub returns : goal.returns
unfolding write_verdict
returns c =
    let a = c.args in
    let p = c.row_count-count.ensures in
    let out = ap (outside 1 given_rows) (sym p) ∙ sym c.is_outside.ensures ∙ c.if-is_outside.false in
    c.refuse_where.ensures
    ∙ bad-check a.n a.k (rows_of a.masks.now a.values.now a.words.now) _ _ p c.first_bad_row-bad.ensures
    ∙ sym (verdict-miss _ _ out ∙ verdict-miss _ _ (le-ltb _ _ c.if-room-lt-TEXT_ROOM.false))
    ∙ part-passes _ _ _ c.type_checks-size.ensures (refl, (refl, (refl, (refl, tt)))) c.if-size-ne0.false

-- `disjoin_text_work::disjoin_text` meets its contract: by the reader's answer, the refusal or the disjoint list of the rows in storage. Assumes
-- nothing.
use native.Mathlib.Omega.{arith}
use lib.ListN.{length-take}
use borrow.Author.Rules.{rules}
use Rattle.text_work.specs.Reader.{reader-count}
use Rattle.disjoin_text_work.specs.Reader.{text-refused, text-accepted}
use Rattle.disjoin_text_work.proofs.disjoin_text.Goals as goal

pub slice_bounds-masks-end : goal.slice_bounds-masks-end
slice_bounds-masks-end c =
    let a = c.args in
    let h = reader-count a.input.now _ _ c.first_bytes-text.ensures c.read_text-reading.ensures.answer _ c.in-Ok.is in
    omega arith

pub slice_bounds-disjoin_list-end : goal.slice_bounds-disjoin_list-end
slice_bounds-disjoin_list-end c =
    let a = c.args in
    let h = reader-count a.input.now _ _ c.first_bytes-text.ensures c.read_text-reading.ensures.answer _ c.in-Ok.is in
    simp length-take (omega arith)

pub slice_bounds-values-end : goal.slice_bounds-values-end
slice_bounds-values-end c =
    let a = c.args in
    let h = reader-count a.input.now _ _ c.first_bytes-text.ensures c.read_text-reading.ensures.answer _ c.in-Ok.is in
    omega arith

pub slice_bounds-disjoin_list-end-in-Ok : goal.slice_bounds-disjoin_list-end-in-Ok
slice_bounds-disjoin_list-end-in-Ok c =
    let a = c.args in
    let h = reader-count a.input.now _ _ c.first_bytes-text.ensures c.read_text-reading.ensures.answer _ c.in-Ok.is in
    simp length-take (omega arith)

pub slice_bounds-words-end : goal.slice_bounds-words-end
slice_bounds-words-end c =
    let a = c.args in
    let h = reader-count a.input.now _ _ c.first_bytes-text.ensures c.read_text-reading.ensures.answer _ c.in-Ok.is in
    omega arith

pub slice_bounds-disjoin_list-end-in-Ok-2 : goal.slice_bounds-disjoin_list-end-in-Ok-2
slice_bounds-disjoin_list-end-in-Ok-2 c =
    let a = c.args in
    let h = reader-count a.input.now _ _ c.first_bytes-text.ensures c.read_text-reading.ensures.answer _ c.in-Ok.is in
    simp length-take (omega arith)

pub returns-in-Err : goal.returns-in-Err
returns-in-Err c =
    let a = c.args in
    let whole = text-refused a.input.now _ _ c.first_bytes-text.ensures c.read_text-reading.ensures.answer _ a.out.now
    c.in-Err.is in
    record { value = rw c.kind_number.ensures whole.0; out_after = whole.1 }

pub returns-in-Ok : goal.returns-in-Ok
returns-in-Ok c =
    let r = c.read_text-reading.ensures in
    let whole =
    text-accepted c.args.input.now _ _ c.first_bytes-text.ensures r.answer _ c.in-Ok.is
    _ _ _ _ _ _ r.rows.masks r.rows.values r.rows.words
    c.args.out.now _ _ (c.disjoin_list.ensures.result_value, c.disjoin_list.ensures.out_after) in
    record { value = whole.0; out_after = whole.1 }

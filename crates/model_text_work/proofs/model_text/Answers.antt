-- `model_text_work::model_text` meets its contract: by the reader's answer, the refusal or the model of the rows in storage. Assumes
-- nothing.
use native.Mathlib.Omega.{arith}
use borrow.Author.Rules.{rules}
use Rattle.text_work.specs.Reader.{reader-count}
use Rattle.model_text_work.specs.Reader.{text-refused, text-accepted}
use Rattle.model_text_work.proofs.model_text.Goals as goal

pub model_rows-requires : goal.model_rows-requires
model_rows-requires c =
    let a = c.args in
    let h = reader-count a.input.now _ _ c.first_bytes-text.ensures c.read_text-reading.ensures.answer _ c.in-Ok.is in
    omega arith

pub returns-in-Err : goal.returns-in-Err
returns-in-Err c =
    let a = c.args in
    let whole = text-refused a.input.now _ _ c.first_bytes-text.ensures c.read_text-reading.ensures.answer _ a.out.now
    c.in-Err.is in
    record { value = rw c.kind_number.ensures whole.0; out_after = whole.1 }

pub returns-in-Ok : goal.returns-in-Ok
returns-in-Ok c =
    let r = c.read_text-reading.ensures in
    let e = c.model_rows.ensures in
    let whole =
    text-accepted c.args.input.now _ _ c.first_bytes-text.ensures r.answer _ c.in-Ok.is
    _ _ _ _ _ _ r.rows.masks r.rows.values r.rows.words
    c.args.out.now _ _ c.requires e.result_value e.out_after in
    record { value = whole.0; out_after = whole.1 }

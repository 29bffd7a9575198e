-- `text_work::work_text` meets its contract: by the reader's answer, the refusal or the work of the rows in storage. Assumes nothing.
use native.Mathlib.Omega.{arith}
use Rattle.text_work.specs.Reader.{reader-refused, reader-count, reader-accepted}
use Rattle.text_work.proofs.work_text.Goals as goal

pub work_rows-requires : goal.work_rows-requires
work_rows-requires c =
    let a = c.args in
    let h = reader-count a.input.now _ _ c.first_bytes-text.ensures c.read_text-reading.ensures.answer _ c.in-Ok.is in
    omega arith

pub returns-in-Err : goal.returns-in-Err
returns-in-Err c =
    let a = c.args in
    let whole = reader-refused a.input.now _ _ c.first_bytes-text.ensures c.read_text-reading.ensures.answer _ c.in-Err.is a.out.now in
    record { value = rw c.kind_number.ensures whole.0; out_after = whole.1 }

pub returns-in-Ok : goal.returns-in-Ok
returns-in-Ok c =
    let r = c.read_text-reading.ensures in
    let e = c.work_rows.ensures in
    let whole =
    reader-accepted c.args.input.now _ _ c.first_bytes-text.ensures r.answer _ c.in-Ok.is _ _ _ _ _ _ r.rows.masks r.rows.values r.rows.words
    c.args.out.now _ _ c.requires e.value e.out_after in
    record { value = whole.0; out_after = whole.1 }

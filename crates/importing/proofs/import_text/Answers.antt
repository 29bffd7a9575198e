-- `importing::import_text` meets its contract: by the work of the text, and the line that is put for it. Assumes nothing.
use mathlib.Core.Path.{ap}
use native.Mathlib.Omega.{arith}
use lib.ListN.{length, length-take}
use Rattle.put_import.specs.Length.{line-le}
use Rattle.importing.specs.Made.{line_made}
use Rattle.importing.proofs.import_text.Goals as goal

pub put_line-length-requires : goal.put_line-length-requires
put_line-length-requires c =
    let part = c.first_bytes in
    omega (arith, line-le part.result.now c.work_text-r.result, simp length-take at (ap length part.ensures))

pub returns : goal.returns
returns c =
    let a = c.args in
    let e = c.work_text-r.ensures in
    let p = c.put_line-length.ensures in
    let part = c.first_bytes in
    let m = line_made a.name.now a.text.now _ a.line.now _ _ _ part.ensures e.value p
    (omega (arith, p.place, line-le part.result.now c.work_text-r.result, simp length-take at (ap length part.ensures))) in
    record { answer = m.0; sheet = e.out_after; line = m.1 }

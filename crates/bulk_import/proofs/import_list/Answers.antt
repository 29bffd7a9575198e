-- `bulk_import::import_list` is safe: the line and the sheet lie in their rooms. Assumes nothing.
use Rattle.std.proofs.Common.{length-take, arith}
use Rattle.importing.specs.Made.{line-fits, sheet-fits}
use Rattle.bulk_import.proofs.import_list.Goals as goal

pub slice_bounds-line-end : goal.slice_bounds-line-end
slice_bounds-line-end g c =
    let made = c.import_text-r.ensures in
    line-fits c.args.name.now c.args.text.now _ _ _ made.answer made.line

pub slice_bounds-said-end : goal.slice_bounds-said-end
slice_bounds-said-end g c =
    let made = c.import_text-r.ensures in
    simp length-take (omega (arith, line-fits c.args.name.now c.args.text.now _ _ _ made.answer made.line))

pub slice_bounds-sheet-end : goal.slice_bounds-sheet-end
slice_bounds-sheet-end g c =
    let made = c.import_text-r.ensures in
    sheet-fits c.args.name.now c.args.text.now _ _ _ made.answer made.sheet c.if-r-ne0.false

pub slice_bounds-put_beside-end : goal.slice_bounds-put_beside-end
slice_bounds-put_beside-end g c =
    let made = c.import_text-r.ensures in
    simp length-take (omega (
      arith,
      sheet-fits c.args.name.now c.args.text.now _ _ _ made.answer made.sheet c.if-r-ne0.false,
    ))

-- `sheets::sheet` meets its contract: its answer is part of what the work of the sheet comes to. Assumes nothing.
use lib.ListN.{length}
use Rattle.block.specs.Words.{rows_of}
use Rattle.sheet_work.specs.Work.{work-sheet}
use Rattle.sheets.proofs.sheet.Goals as goal

pub returns : goal.returns
returns c =
    let a = c.args in
    let e = c.make_sheet-r.ensures in
    record {
      answer = work-sheet a.n a.k a.block_type a.w (rows_of a.masks.now a.values.now a.words.now) (length a.out.now) _ e.value;
      text = e.out_after;
    }

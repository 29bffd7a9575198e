-- `text_work::work_list` meets its contract: by the work of the sheet, with the weight limit. Assumes nothing.
use Rattle.text_work.proofs.work_list.Goals as goal

pub returns : goal.returns
returns c =
    let e = c.make_sheet.ensures in
    record { value = rw (← c.weight_limit-w.ensures) e.value; out_after = rw (← c.weight_limit-w.ensures) e.out_after }

-- `put_sheet::put_sizes` meets its contract: the five puts, one after the other. Assumes nothing.
use Rattle.put_bytes.specs.Puts.{then}
use Rattle.put_sheet.specs.Lines.{sizes_text}
use Rattle.put_sheet.proofs.put_sizes.Goals as goal

pub returns : goal.returns
unfolding sizes_text
returns c =
    then
    (then (then (then c.put_section-a.ensures c.put_section-b.ensures) c.put_number-c.ensures) c.put_number-d.ensures)
    c.put_number.ensures

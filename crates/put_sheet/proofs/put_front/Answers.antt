-- `put_sheet::put_front` meets its contract: the four puts, one after the other. Assumes nothing.
use Rattle.put_bytes.specs.Puts.{then}
use Rattle.put_sheet.specs.Lines.{front_text}
use Rattle.put_sheet.proofs.put_front.Goals as goal

pub returns : goal.returns
unfolding front_text
returns c =
    then (then (then c.put_sizes-a.ensures c.put_section-b.ensures) c.put_number-c.ensures) c.put_number.ensures

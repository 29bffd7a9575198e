-- `put_text::put_headings` meets its contract: the four puts, one after the other. Assumes nothing.
use Rattle.put_bytes.specs.Puts.{then}
use Rattle.put_text.proofs.put_headings.Goals as goal

pub returns : goal.returns
returns c =
    then (then (then c.put_heading-a.ensures c.put_heading-b.ensures) c.put_type_line-c.ensures) c.put_heading.ensures

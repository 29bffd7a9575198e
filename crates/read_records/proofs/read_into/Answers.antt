-- `read_records::read_into` meets its contract: the first m places of each array are lent to the operation on flat slices, and what it stores
-- there are the rows. Assumes nothing.
use Rattle.block.specs.Text.{numbers}
use Rattle.read_records.specs.Reading.{read-yields}
use Rattle.read_records.proofs.read_into.Goals as goal

pub returns : goal.returns
returns c =
    let arg = c.args in
    let read = c.read_text-answer in
    read-yields arg.text.now (numbers read.result) arg.m arg.flat _ _ _ c.rows_read.result c.requires.0 c.requires.1
    c.rows_read.ensures read.ensures

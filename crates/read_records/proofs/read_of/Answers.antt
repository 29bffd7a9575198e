-- `read_records::read_of` meets its contract: no more than 513 places are looked at, and the room counts only up to 128. Assumes nothing.
use Rattle.block.specs.Text.{numbers}
use Rattle.read_records.specs.Reading.{read_whole}
use Rattle.read_records.proofs.read_of.Goals as goal

pub returns : goal.returns
returns c =
    let arg = c.args in
    let read = c.read_into in
    read_whole arg.text.now (numbers read.result.answer) arg.room c.fits.result read.result.flat
    read.result.count c.fits.ensures read.ensures

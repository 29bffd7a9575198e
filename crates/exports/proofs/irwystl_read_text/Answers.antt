-- `exports::irwystl_read_text` meets its contract: the reader's answer in numbers. Assumes nothing.
use mathlib.Core.Path.{◌∙◌}
use Rattle.exports.proofs.irwystl_read_text.Goals as goal

pub returns : goal.returns
returns c =
    let read = c.read_text-answer.ensures in
    record { answer = c.in_numbers.ensures ∙ read.answer; rows = read.rows }

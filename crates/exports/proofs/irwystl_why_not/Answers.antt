-- `exports::irwystl_why_not` meets its contract: the answer in numbers. Assumes nothing.
use mathlib.Core.Path.{◌∙◌}
use Rattle.exports.proofs.irwystl_why_not.Goals as goal

pub returns : goal.returns
returns c =
    let why = c.why_not-why.ensures in
    record { answer = c.in_numbers.ensures ∙ why.answer; taken = why.taken }

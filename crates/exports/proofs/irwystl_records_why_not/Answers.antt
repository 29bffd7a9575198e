-- `exports::irwystl_records_why_not` meets its contract: the answer in numbers. Assumes nothing.
use Rattle.std.proofs.Common.{◌∙◌}
use Rattle.exports.proofs.irwystl_records_why_not.Goals as goal

pub returns : goal.returns
returns c =
    let why = c.why_not-why.ensures in
    record { answer = c.in_numbers.ensures ∙ why.answer; taken = why.taken }

-- `model_values::is_bad_pattern` meets its contract: a word of 0 is below 2. Assumes nothing.
use Rattle.block.specs.Refusals.{bad_row}
use Rattle.block.specs.ModelRead.{bad_pattern}
use Rattle.model_values.proofs.is_bad_pattern.Goals as goal

pub returns : goal.returns
unfolding bad_row bad_pattern
returns c = c.is_bad_row.ensures

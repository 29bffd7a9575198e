-- `candidate_list::printed_list` meets its contract: the list passes the test, which antt computes over all of it. Assumes nothing.
use lib.Count.{ones_in}
use Rattle.block.specs.Limits.{list_inputs}
use Rattle.light_laws.specs.Counted.{choices}
use Rattle.candidate_list.specs.Printed.{printed_limit, ascends, sound, is_printed}
use Rattle.candidate_list.specs.Rule.{printed-rule}
use Rattle.candidate_list.proofs.printed_list.Goals as goal

pub returns : goal.returns
unfolding is_printed ascends sound ones_in choices
returns c = printed-rule list_inputs printed_limit _ tt

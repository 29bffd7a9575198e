-- `read_model::read_sizes` meets its contract: the first line is read, and then the inputs' and the outputs'. Assumes nothing.
use Rattle.std.proofs.Common.{refl}
use Rattle.std.proofs.lemmas.Result.{err_from_is_err_and}
use Rattle.block.specs.Model.{spaced}
use Rattle.block.specs.ModelRead.{InputsDue}
use Rattle.model_laws.specs.WordLines.{is_line}
use Rattle.read_names.specs.Fate.{Came}
use Rattle.read_model.specs.Whole.{Sized, in-sized}
use Rattle.read_model.proofs.read_sizes.Goals as goal

pub read_line-requires : goal.read_line-requires
unfolding is_line
read_line-requires c = refl

pub returns-in_err-next : goal.returns-in_err-next
unfolding Came Sized spaced
returns-in_err-next c =
    let p = err_from_is_err_and c.from_residual.result c.from_residual.ensures.1 in
    rw (p.1, p.2) (c.in_err-next.ensures InputsDue)

pub returns : goal.returns
unfolding Came spaced
returns c =
    in-sized c.args.text.now c.in_ok-next.next c.read_inputs_line.result (c.in_ok-next.ensures InputsDue) c.read_inputs_line.ensures

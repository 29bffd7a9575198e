-- `read_sigma::end_copy` meets its contract: the line is read, and the row is the one that was given. Assumes nothing.
use Rattle.std.proofs.Common.{refl}
use Rattle.std.proofs.lemmas.Result.{err_from_is_err_and}
use Rattle.model_laws.specs.WordLines.{is_line}
use Rattle.read_names.specs.Fate.{Came}
use Rattle.read_chains.specs.Chains.{Ended}
use Rattle.read_sigma.proofs.end_copy.Goals as goal

pub read_line-requires : goal.read_line-requires
unfolding is_line
read_line-requires c = refl

pub returns-in_err-next : goal.returns-in_err-next
unfolding Came Ended
returns-in_err-next c =
    let p = err_from_is_err_and c.from_residual.result c.from_residual.ensures.1 in
    rw (p.1, p.2) c.in_err-next.ensures

pub returns : goal.returns
unfolding Came Ended
returns c = λ s. (refl, c.in_ok-next.ensures s)

-- `read_chains::end_row` meets its contract: the lines are read, and the row is the one that was given. Assumes nothing.
use Rattle.std.proofs.Common.{refl}
use Rattle.std.proofs.lemmas.Result.{err_from_is_err_and}
use Rattle.read_names.specs.Fate.{Came}
use Rattle.read_chains.specs.Chains.{Ended}
use Rattle.read_chains.proofs.end_row.Goals as goal

pub returns-in_err-next : goal.returns-in_err-next
unfolding Came Ended
returns-in_err-next c =
    let p = err_from_is_err_and c.from_residual.result c.from_residual.ensures.1 in
    rw (p.1, p.2) c.in_err-next.ensures

pub returns : goal.returns
unfolding Came Ended
returns c = λ s. (refl, c.in_ok-next.ensures s)

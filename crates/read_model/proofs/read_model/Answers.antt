-- `read_model::read_model` meets its contract: the heading is read, and then the rest. Assumes nothing.
use Rattle.std.proofs.lemmas.Result.{err_from_is_err_and}
use Rattle.read_model.specs.Whole.{Sized, Modelled, model-broken}
use Rattle.read_model.proofs.read_model.Goals as goal

pub read_rest-requires : goal.read_rest-requires
read_rest-requires c = c.in_ok-n.ensures

pub returns-in_err-n : goal.returns-in_err-n
unfolding Sized Modelled
returns-in_err-n c =
    let p = err_from_is_err_and c.from_residual.result c.from_residual.ensures.1 in
    rw (p.1, p.2) (model-broken c.args.text.now _ c.in_err-n.ensures)

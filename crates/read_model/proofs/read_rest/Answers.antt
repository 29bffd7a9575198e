-- `read_model::read_rest` meets its contract: the rows are read, and the outputs where the rows are whole. Assumes nothing.
use Rattle.std.proofs.Common.{◌∙◌}
use Rattle.std.proofs.lemmas.Result.{err_from_is_err_and}
use Rattle.read_names.specs.Fate.{stop-after}
use Rattle.read_sigma.specs.Rows.{Rows}
use Rattle.read_outputs.specs.Outputs.{Ending}
use Rattle.read_model.specs.Whole.{Sized, Modelled, model-broken, model-held}
use Rattle.read_model.proofs.read_rest.Goals as goal

pub read_rows-requires : goal.read_rows-requires
unfolding Sized
read_rows-requires c = (c.requires.0, c.requires.1)

pub read_outputs-requires : goal.read_outputs-requires
unfolding Sized
read_outputs-requires c = (c.requires.1, c.requires.2, c.requires.3)

pub returns-in_err-next : goal.returns-in_err-next
unfolding Sized Rows Modelled
returns-in_err-next c =
    let a = c.args in
    let p = err_from_is_err_and c.from_residual.result c.from_residual.ensures.1 in
    rw (p.1, p.2) (model-broken a.text.now _ (stop-after c.requires.4 (c.in_err-next.ensures a.k)))

pub returns-in_err-patterns : goal.returns-in_err-patterns
unfolding Sized Rows Ending Modelled
returns-in_err-patterns c =
    let a = c.args in
    let rows = c.in_ok-next.ensures in
    let p = err_from_is_err_and c.from_residual-in_err-patterns.result c.from_residual-in_err-patterns.ensures.1 in
    rw (p.1, p.2) (model-broken a.text.now _ (stop-after (c.requires.4 ∙ rows.goes a.k) (c.in_err-patterns.ensures rows.rows)))

pub returns : goal.returns
unfolding Sized Rows Ending Modelled
returns c =
    let a = c.args in
    model-held a.text.now a.matrix.now a.counts.now a.masks.now a.values.now a.n a.k c.in_ok-patterns.patterns _ _ _ _ a.at
    c.in_ok-next.next c.requires.1 c.requires.4 c.in_ok-next.ensures c.in_ok-patterns.ensures

-- `shared_points::then_apart` meets its contract: the earlier refusal, or the first pair's answer. Assumes nothing.
use Rattle.shared_points.specs.Pairs.{apart-refused, apart-asked}
use Rattle.shared_points.proofs.then_apart.Goals as goal

pub returns-then-v-ne0 : goal.returns-then-v-ne0
returns-then-v-ne0 c =
    let a = c.args in
    apart-refused a.v a.masks.now a.values.now c.if-v-ne0.true

pub returns : goal.returns
returns c =
    let a = c.args in
    apart-asked a.v a.masks.now a.values.now c.if-v-ne0.false _ _ c.first_pair.ensures
    c.refuse_pair.ensures

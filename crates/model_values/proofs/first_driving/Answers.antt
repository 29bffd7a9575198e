use Rattle.std.proofs.Common.{◌≡◌, ◌∙◌, arith, eq-eqb, ne_eqb}
use Rattle.table_checks.specs.Search.{search-starts, search-goes-on, search-finds, search-ends}
use Rattle.model_values.proofs.first_driving.Goals as goal

pub loop-i-init : goal.loop-i-init
loop-i-init c = search-starts _ _

pub returns-then-masks-from : goal.returns-then-masks-from
returns-then-masks-from c = search-finds _ _ _ c.loop-i.invariant (eq-eqb _ _ c.if-masks-from.true)

pub loop-i-preserved : goal.loop-i-preserved
loop-i-preserved c = search-goes-on _ _ _ c.loop-i.invariant (omega arith) (ne_eqb _ _ c.if-masks-from.false)

pub returns : goal.returns
returns c =
    let e : c.args.count ≡ c.loop-i.i = omega arith in
    e ∙ search-ends _ _ _ c.loop-i.invariant (omega arith)

use Rattle.std.proofs.Common.{◌≡◌, sym, ◌∙◌, arith}
use Rattle.table_checks.specs.Search.{search-starts, search-goes-on, search-finds, search-ends}
use Rattle.model_values.proofs.first_bad_pattern.Goals as goal

pub loop-i-init : goal.loop-i-init
loop-i-init c = search-starts _ _

pub returns-then-is_bad_pattern : goal.returns-then-is_bad_pattern
returns-then-is_bad_pattern c = search-finds _ _ _ c.loop-i.invariant (sym c.is_bad_pattern.ensures ∙ c.if-is_bad_pattern.true)

pub loop-i-preserved : goal.loop-i-preserved
loop-i-preserved c =
    search-goes-on _ _ _ c.loop-i.invariant (omega arith) (sym c.is_bad_pattern.ensures ∙ c.if-is_bad_pattern.false)

pub returns : goal.returns
returns c =
    let e : c.args.count ≡ c.loop-i.i = omega arith in
    e ∙ search-ends _ _ _ c.loop-i.invariant (omega arith)

use Rattle.std.proofs.Common.{◌≡◌, sym, ◌∙◌, length, arith}
use Rattle.table_checks.specs.Search.{search-finds, search-ends}
use Rattle.table_checks.proofs.first_bad_entry.Goals as goal

pub returns-then-is_bad_entry : goal.returns-then-is_bad_entry
returns-then-is_bad_entry c = search-finds _ _ _ c.loop-i.invariant (sym c.is_bad_entry.ensures ∙ c.if-is_bad_entry.true)

pub returns : goal.returns
returns c =
    let end : length c.args.table.now ≡ c.loop-i.i = omega arith in
    end ∙ search-ends _ _ _ c.loop-i.invariant (omega arith)

-- `walks::put_walk` meets its contract: the printed list follows its rule, so that, cut and without the heavier numbers, it is the walk.
-- Assumes nothing.
use mathlib.Core.Path.{◌≡◌}
use native.Mathlib.Omega.{arith}
use Rattle.block.specs.Limits.{list_inputs}
use Rattle.candidate_list.specs.Printed.{printed_limit}
use Rattle.walks.specs.Walk.{walk}
use Rattle.walks.specs.Printed.{kept, cut, walk-printed}
use Rattle.walks.proofs.put_walk.Goals as goal
use Rattle.walks.proofs.put_walk.Goals.{After-printed_list-list}

-- the list's walk is the walk
listed : (c : goal.After-printed_list-list) → kept c.args.w c.printed_list-list.result (cut c.args.n c.printed_list-list.result)
    ≡ walk c.args.n c.args.w
listed c =
    walk-printed list_inputs printed_limit c.args.w c.printed_list-list.result c.printed_list-list.ensures c.if-w-le-PRINTED_LIMIT.true c.args.n
    c.requires.1

pub put_listed-requires : goal.put_listed-requires
put_listed-requires c =
    (rw (listed (goal.at.put_listed-requires c).After-printed_list-list) c.requires.0, c.requires.1, omega arith)

pub returns-then-w-le-PRINTED_LIMIT : goal.returns-then-w-le-PRINTED_LIMIT
returns-then-w-le-PRINTED_LIMIT c =
    rw (listed (goal.at.returns-then-w-le-PRINTED_LIMIT c).After-printed_list-list) at c.put_listed.ensures

-- `symmetric_work::make_symmetric` meets its contract: the front of the room for the table is the table, and what the parts make of it is the
-- whole. Assumes nothing.
use mathlib.Core.Path.{◌≡◌}
use lib.ListN.{take}
use Rattle.block.specs.Symmetric.{symmetric_table}
use Rattle.symmetric_work.specs.Work.{front-table, made}
use Rattle.symmetric_work.proofs.make_symmetric.Goals as goal
use Rattle.symmetric_work.proofs.make_symmetric.Goals.{After-size-size}

-- the front of the room is the table
front : (c : goal.After-size-size) → take c.size-size.result c.put_symmetric.new.out
    ≡ symmetric_table c.args.words.now c.args.n
front c =
    front-table c.args.words.now c.args.n _ c.args.table.now _ c.put_symmetric.ensures c.size-size.ensures

pub returns : goal.returns
returns c =
    made c.args.words.now c.args.n _ (front (goal.at.returns c).After-size-size) c.args.table.now c.args.out.now _ _ _
    c.put_symmetric.ensures c.put_gray.ensures c.symmetric_measures.ensures

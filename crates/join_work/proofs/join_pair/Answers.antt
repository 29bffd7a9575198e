-- `join_work::join_pair` meets its contract: one row is stored, and each slice closes up. Assumes nothing.
use Rattle.join_work.specs.All.{one-join}
use Rattle.join_work.proofs.join_pair.Goals as goal

pub returns : goal.returns
returns c =
    let p = c.requires in
    one-join _ _ _ _ _ _ _ _ _ p.0 p.1 p.2 p.3 c.close_up.ensures c.close_up-2.ensures c.close_up-3.ensures

-- `moved_rows::put_list` meets its contract: the parts of the rows are copied one by one. Assumes nothing.
use Rattle.moved_rows.specs.Put.{list_put}
use Rattle.moved_rows.proofs.put_list.Goals as goal

pub returns : goal.returns
returns c =
    let a = c.args in
    list_put a.count a.masks.now a.values.now a.words.now _ _ _ _ _ _ c.copy_first.ensures
    c.copy_first-2.ensures c.copy_first-3.ensures

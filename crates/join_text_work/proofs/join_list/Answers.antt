-- `join_text_work::join_list` meets its contract: where joining refuses, nothing is written; where it answers, the joined rows lie at the front of
-- the slices, and what is left is the writing of them. Assumes nothing.
use borrow.Author.Rules.{rules}
use Rattle.join_text_work.specs.Rows.{joined-lies, join-refused, join_written}
use Rattle.join_text_work.proofs.join_list.Goals as goal

pub returns-then-j-ne0 : goal.returns-then-j-ne0
returns-then-j-ne0 c =
    let a = c.args in
    let whole =
    join-refused a.n a.k a.masks.now a.values.now a.words.now _ _ _ _ c.join_rows-j.ensures
    a.block_type a.type_line a.out.now c.if-j-ne0.true in
    record { result_value = whole.0; out_after = whole.1 }

pub write_rows-requires : goal.write_rows-requires
write_rows-requires c =
    let a = c.args in
    joined-lies a.n a.k a.masks.now a.values.now a.words.now _ _ _ _ c.join_rows-j.ensures c.if-j-ne0.false

pub returns : goal.returns
returns c =
    let a = c.args in
    let whole =
    join_written a.n a.k a.masks.now a.values.now a.words.now _ _ _ _ c.join_rows-j.ensures
    a.block_type a.type_line a.out.now c.if-j-ne0.false _ _
    c.write_rows.ensures in
    record { result_value = whole.0; out_after = whole.1 }

-- `joining::join_rows` meets its contract. A refusal leaves the slices alone; on 0 every check passed, so that the slices have one length and a
-- row at least, and what the work leaves in them is what they are to hold. Assumes nothing.
use mathlib.Core.Path.{◌∙◌}
use mathlib.Core.List.{List, map}
use Rattle.block.specs.Limits.{smaller_rows}
use Rattle.block.specs.Words.{rows_of, mask_part, values_part, word_part}
use Rattle.block.specs.Joins.{joined_room}
use Rattle.block.specs.declared.Row.{Row}
use Rattle.refusal_laws.specs.Verdicts.{kept, given}
use Rattle.flat_rows.specs.Listing.{listed-rows}
use Rattle.row_checks.specs.Checked.{join-checked}
use Rattle.join_work.specs.Stored.{joined-count, stored-all, count-refused, count-answered}
use Rattle.joining.proofs.join_rows.Goals as goal

pub returns-then-v-ne0 : goal.returns-then-v-ne0
returns-then-v-ne0 c =
    let a = c.args in
    let rs : List Row = rows_of a.masks.now a.values.now a.words.now in
    let e = c.join_verdict-v.ensures in
    let no = c.if-v-ne0.true in
    record {
      answer = c.from.ensures ∙ count-refused a.n a.k rs _ e no;
      rows =
          record {
            masks = kept _ _ (map mask_part (joined_room rs)) a.masks.now e no;
            values = kept _ _ (map values_part (joined_room rs)) a.values.now e no;
            words = kept _ _ (map word_part (joined_room rs)) a.words.now e no;
          };
    }

pub join_all-count-requires : goal.join_all-count-requires
join_all-count-requires c =
    let a = c.args in
    let w = join-checked a.n a.k a.masks.now a.values.now a.words.now _ c.join_verdict-v.ensures c.if-v-ne0.false in
    let l = listed-rows smaller_rows a.masks.now a.values.now a.words.now w.range.count in
    (l.some, l.values-too, l.words-too)

pub returns : goal.returns
returns c =
    let a = c.args in
    let rs : List Row = rows_of a.masks.now a.values.now a.words.now in
    let e = c.join_verdict-v.ensures in
    let yes = c.if-v-ne0.false in
    let w = join-checked a.n a.k a.masks.now a.values.now a.words.now _ e yes in
    let l = listed-rows smaller_rows a.masks.now a.values.now a.words.now w.range.count in
    let j = c.join_all-count.ensures in
    let s = stored-all _ a.masks.now a.values.now a.words.now _ _ _ l.values-too l.words-too j in
    record {
      answer =
          rw c.from-2.ensures (count-answered a.n a.k rs _ _ e yes
          (joined-count _ a.masks.now a.values.now a.words.now _ _ _ l.values-too l.words-too j));
      rows =
          record {
            masks = s.masks ∙ given _ _ (map mask_part (joined_room rs)) a.masks.now e yes;
            values = s.values ∙ given _ _ (map values_part (joined_room rs)) a.values.now e yes;
            words = s.words ∙ given _ _ (map word_part (joined_room rs)) a.words.now e yes;
          };
    }

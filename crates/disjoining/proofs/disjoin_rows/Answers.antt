-- `disjoining::disjoin_rows` meets its contract. A refusal leaves the slices alone; where every check before 14 passed, the slices have one length,
-- the rows are well formed and there is room, and the work says how many rows come out. Assumes nothing.
use native.Mathlib.Omega.{arith}
use Rattle.block.specs.Words.{rows_of}
use Rattle.region_work.specs.Answered.{ready, by_rows, refused-early, refused-many, answered-put}
use Rattle.disjoining.proofs.disjoin_rows.Goals as goal

pub returns-then-v-ne0 : goal.returns-then-v-ne0
returns-then-v-ne0 c =
    let a = c.args in
    rw c.from.ensures (refused-early a.n a.k _ (rows_of a.masks.now a.values.now a.words.now) a.disjoint_masks.now a.disjoint_values.now a.disjoint_words.now
    c.least_room-room.ensures _ c.disjoin_checked-v.ensures c.if-v-ne0.true)

pub put_disjoint-count-requires : goal.put_disjoint-count-requires
put_disjoint-count-requires c =
    let a = c.args in
    let r = ready a.n a.k _ a.masks.now a.values.now a.words.now a.disjoint_masks.now a.disjoint_values.now a.disjoint_words.now _ c.least_room-room.ensures c.disjoin_checked-v.ensures c.if-v-ne0.false in
    record {
      n_le_list_inputs = (r.size, r.space);
      values_len = (r.values-too, r.words-too, r.sound);
    }

pub returns-then-count-gt-GIVEN_ROWS : goal.returns-then-count-gt-GIVEN_ROWS
returns-then-count-gt-GIVEN_ROWS c =
    let a = c.args in
    let e = c.disjoin_checked-v.ensures in
    let zero = c.if-v-ne0.false in
    let r = ready a.n a.k _ a.masks.now a.values.now a.words.now a.disjoint_masks.now a.disjoint_values.now a.disjoint_words.now _ c.least_room-room.ensures e zero in
    refused-many a.n a.k _ (rows_of a.masks.now a.values.now a.words.now) a.disjoint_masks.now a.disjoint_values.now a.disjoint_words.now c.least_room-room.ensures _ e zero
    (by_rows r c.put_disjoint-count.ensures) c.if-count-gt-GIVEN_ROWS.true

pub returns : goal.returns
returns c =
    let a = c.args in
    let e = c.disjoin_checked-v.ensures in
    let zero = c.if-v-ne0.false in
    let r = ready a.n a.k _ a.masks.now a.values.now a.words.now a.disjoint_masks.now a.disjoint_values.now a.disjoint_words.now _ c.least_room-room.ensures e zero in
    answered-put a.n a.k _ (rows_of a.masks.now a.values.now a.words.now) a.disjoint_masks.now a.disjoint_values.now a.disjoint_words.now c.least_room-room.ensures _ e zero
    (by_rows r c.put_disjoint-count.ensures) (omega (arith, c.if-count-gt-GIVEN_ROWS.false))

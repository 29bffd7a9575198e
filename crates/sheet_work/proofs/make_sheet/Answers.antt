-- `sheet_work::make_sheet` meets its contract. A refusal of the row method is the sheet's, and leaves the slice alone; on 0 every check passed, so
-- that the sheet fits, and what is put from working storage is 01's sheet. Assumes nothing.
use lib.ListN.{length-take}
use native.Mathlib.Omega.{arith}
use Rattle.block.specs.Words.{rows_of}
use Rattle.sheet_work.specs.Made.{sheet-refused, sheet-ready, sheet-room, sheet-answered}
use Rattle.sheet_work.proofs.make_sheet.Goals as goal

pub returns-then-r-ne0 : goal.returns-then-r-ne0
returns-then-r-ne0 c =
    let a = c.args in
    let whole =
    sheet-refused a.n a.k a.block_type a.w (rows_of a.masks.now a.values.now a.words.now) a.out.now _ _ _ _ _ _ _ _ _ _ _
    c.method_rows-r.ensures c.if-r-ne0.true in
    record { value = whole.0; out_after = whole.1 }

pub slice_bounds-basis-end : goal.slice_bounds-basis-end
slice_bounds-basis-end c =
    let a = c.args in
    let h = (sheet-ready a.n a.k a.block_type a.w (rows_of a.masks.now a.values.now a.words.now) a.out.now _ _ _ _ _ _ _ _ _ _ _
    c.method_rows-r.ensures c.if-r-ne0.false).passed in
    omega (arith, h.list.range.size.1)

pub slice_bounds-put_sheet-end : goal.slice_bounds-put_sheet-end
slice_bounds-put_sheet-end c =
    let a = c.args in
    let h = (sheet-ready a.n a.k a.block_type a.w (rows_of a.masks.now a.values.now a.words.now) a.out.now _ _ _ _ _ _ _ _ _ _ _
    c.method_rows-r.ensures c.if-r-ne0.false).passed in
    simp length-take (omega (arith, h.list.range.size.1))

pub slice_bounds-sigma-end : goal.slice_bounds-sigma-end
slice_bounds-sigma-end c =
    let a = c.args in
    let h = (sheet-ready a.n a.k a.block_type a.w (rows_of a.masks.now a.values.now a.words.now) a.out.now _ _ _ _ _ _ _ _ _ _ _
    c.method_rows-r.ensures c.if-r-ne0.false).passed in
    omega (arith, h.list.range.size.1)

pub slice_bounds-put_sheet-end-2 : goal.slice_bounds-put_sheet-end-2
slice_bounds-put_sheet-end-2 c =
    let a = c.args in
    let h = (sheet-ready a.n a.k a.block_type a.w (rows_of a.masks.now a.values.now a.words.now) a.out.now _ _ _ _ _ _ _ _ _ _ _
    c.method_rows-r.ensures c.if-r-ne0.false).passed in
    simp length-take (omega (arith, h.list.range.size.1))

pub put_sheet-count-requires : goal.put_sheet-count-requires
put_sheet-count-requires c =
    let a = c.args in
    let s = sheet-room a.n a.k a.block_type a.w (rows_of a.masks.now a.values.now a.words.now) a.out.now _ _ _ _ _ _ _ _ _ _ _
    c.method_rows-r.ensures c.if-r-ne0.false in
    record {
      words_in_bounds = s.0;
      count_in_bounds = (omega (arith, s.1), omega (arith, s.1), omega (arith, s.1));
    }

pub returns : goal.returns
returns c =
    let a = c.args in
    let whole =
    sheet-answered a.n a.k a.block_type a.w (rows_of a.masks.now a.values.now a.words.now) a.out.now _ _ _ _ _ _ _ _ _ _ _
    c.method_rows-r.ensures c.if-r-ne0.false _ _ c.put_sheet-count.ensures in
    record { value = whole.0; out_after = whole.1 }

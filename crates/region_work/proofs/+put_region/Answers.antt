use native.Mathlib.Omega.{arith}
use Rattle.region_work.specs.Put.{put-past}
use Rattle.region_work.specs.Halved.{unmet, single, cut_below, smaller, double}
use borrow.Author.Rules.{rules}
use Rattle.region_work.proofs.+put_region.Goals as goal

pub returns-then-count-gt-GIVEN_ROWS : goal.returns-then-count-gt-GIVEN_ROWS
returns-then-count-gt-GIVEN_ROWS t c =
    put-past _ _ _ _ _ _ _ _ c.if-count-gt-GIVEN_ROWS.true c.requires.n_le_list_inputs.1

pub returns-then-m-eq0 : goal.returns-then-m-eq0
returns-then-m-eq0 t c =
    let a = c.args in
    unmet a.n a.q a.masks.now a.values.now a.words.now c.requires.n_le_list_inputs.2 c.requires.values_len.2 c.meet_rows-m.ensures c.if-m-eq0.true c.requires.n_le_list_inputs.1

pub returns-then-undecided-eq0 : goal.returns-then-undecided-eq0
returns-then-undecided-eq0 t c =
    let a = c.args in
    single a.n a.q a.masks.now a.values.now a.words.now c.requires.n_le_list_inputs.2 c.requires.values_len.2 c.meet_rows-m.ensures c.if-m-eq0.false c.if-undecided-eq0.true c.put_piece.ensures

pub half_row-low-requires : goal.half_row-low-requires
half_row-low-requires t c =
    let a = c.args in
    let l = cut_below a.n a.q a.masks.now a.values.now a.words.now c.requires.n_le_list_inputs.2 c.requires.values_len.2 c.meet_rows-m.ensures c.if-m-eq0.false c.if-undecided-eq0.false c.highest_bit-h.ensures in
    (omega (arith, l), omega arith)

pub put_region-next-requires : goal.put_region-next-requires
put_region-next-requires t c =
    let a = c.args in
    let h = smaller a.n a.q a.masks.now a.values.now a.words.now c.requires.n_le_list_inputs.2 c.requires.values_len.2 c.meet_rows-m.ensures c.if-m-eq0.false c.if-undecided-eq0.false c.highest_bit-h.ensures 0 _ (omega arith) c.half_row-low.ensures in
    (omega (arith, h.fewer), ((c.requires.n_le_list_inputs.0, c.requires.n_le_list_inputs.1, h.well, c.requires.n_le_list_inputs.3), c.requires.values_len))

pub half_row-high-requires : goal.half_row-high-requires
half_row-high-requires t c =
    let a = c.args in
    let l = cut_below a.n a.q a.masks.now a.values.now a.words.now c.requires.n_le_list_inputs.2 c.requires.values_len.2 c.meet_rows-m.ensures c.if-m-eq0.false c.if-undecided-eq0.false c.highest_bit-h.ensures in
    (omega (arith, l), omega arith)

pub put_region-requires : goal.put_region-requires
put_region-requires t c =
    let a = c.args in
    let h = smaller a.n a.q a.masks.now a.values.now a.words.now c.requires.n_le_list_inputs.2 c.requires.values_len.2 c.meet_rows-m.ensures c.if-m-eq0.false c.if-undecided-eq0.false c.highest_bit-h.ensures 1 _ (omega arith) c.half_row-high.ensures in (
      omega (arith, h.fewer),
      ((c.requires.n_le_list_inputs.0, omega (arith, c.put_region-next.ensures.longer), h.well, search rules), c.requires.values_len),
    )

pub returns : goal.returns
returns t c =
    let a = c.args in
    double a.n a.q a.masks.now a.values.now a.words.now c.requires.n_le_list_inputs.2 c.requires.values_len.2 c.meet_rows-m.ensures c.if-m-eq0.false c.if-undecided-eq0.false c.highest_bit-h.ensures
    c.half_row-low.ensures c.half_row-high.ensures c.put_region-next.ensures c.put_region.ensures

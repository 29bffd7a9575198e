-- `smaller_rows::work_rows` meets its contract: by the step that comes back, nothing was written, or all that was found. Assumes nothing.
use native.Mathlib.Omega.{arith}
use Rattle.block.specs.Words.{rows_of}
use Rattle.smaller_rows.specs.Work.{found-independent, work-stopped, work-done}
use borrow.Author.Rules.{rules}
use Rattle.smaller_rows.proofs.work_rows.Goals as goal

pub replay_rows-m-requires : goal.replay_rows-m-requires
replay_rows-m-requires c =
    let a = c.args in record {
      n_le_list_inputs = (
        c.requires.n_le_list_inputs.0,
        omega (arith, c.requires.n_le_list_inputs.0, c.find_basis-measures.auto),
        found-independent a.missing a.n a.w c.requires.n_le_list_inputs.1 (rows_of a.masks.now a.values.now a.words.now) _ _ _ _ _ c.find_basis-measures.ensures,
      );
      listed = c.requires.listed;
      room = search rules;
    }

pub returns-then-m-ne0 : goal.returns-then-m-ne0
returns-then-m-ne0 c =
    let a = c.args in
    work-stopped a.missing a.n a.w c.requires.n_le_list_inputs.1 (rows_of a.masks.now a.values.now a.words.now) _ _ _ _ _ c.find_basis-measures.ensures _ _ _ _
    c.replay_rows-m.ensures _ _ _ _ _ c.if-m-ne0.true

pub copy_first-requires : goal.copy_first-requires
copy_first-requires c = omega (arith, c.requires.n_le_list_inputs, c.find_basis-measures.auto)

pub copy_first-requires-2 : goal.copy_first-requires-2
copy_first-requires-2 c = omega (arith, c.requires.n_le_list_inputs, c.find_basis-measures.auto)

pub put_list-requires : goal.put_list-requires
put_list-requires c =
    let r = c.replay_rows-m in record {
      count_in_bounds = (omega (arith, r.ensures.few, r.auto), omega (arith, r.ensures.few, r.auto), omega (arith, r.ensures.few, r.auto));
      count_in_bounds_2 = (omega (arith, r.ensures.few, c.requires.smaller_rows_in_bounds), omega (arith, r.ensures.few, c.requires.smaller_rows_in_bounds), omega (arith, r.ensures.few, c.requires.smaller_rows_in_bounds));
    }

pub returns : goal.returns
returns c =
    let a = c.args in
    work-done a.missing a.n a.w c.requires.n_le_list_inputs.1 (rows_of a.masks.now a.values.now a.words.now) _ _ _ _ _ c.find_basis-measures.ensures _ _ _ _
    c.replay_rows-m.ensures _ _ _ _ _ _ _ _ _ _ c.if-m-ne0.false c.copy_first.ensures c.copy_first-2.ensures
    c.put_list.ensures

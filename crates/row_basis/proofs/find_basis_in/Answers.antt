-- `row_basis::find_basis_in` meets its contract: the values by the places of the walk agree with R where the rule asks for it. Assumes
-- nothing.
use native.Mathlib.Omega.{arith}
use Rattle.block.specs.Words.{of_rows, rows_of}
use Rattle.block.specs.Measure.{shift}
use Rattle.walks.specs.Walk.{ones-light, walked, walked-lt, walked-light, value-agree}
use Rattle.choosing.specs.Found.{found}
use borrow.Author.Rules.{rules}
use Rattle.row_basis.proofs.find_basis_in.Goals as goal

pub shifts_of-requires : goal.shifts_of-requires
shifts_of-requires c =
    let a = c.args in
    let walk = c.put_walk-count in
    let room = c.requires.w_in_bounds in
    let h = walked a.n a.w a.candidates.now _ _ walk.ensures.out_after walk.ensures.value in record {
      n_le_list_inputs = (c.requires.n_le_list_inputs.0, c.requires.listed);
      disjoint = c.requires.disjoint;
      places_in_bounds = (omega (arith, walk.ensures.value, walk.auto.out, room.0), omega (arith, walk.ensures.value, room.1), walked-lt _ _ _ _ h);
      by_index = λ i b. (ones-light a.w _ (walked-light _ _ _ _ h i b)).1;
    }

pub choose_basis-requires : goal.choose_basis-requires
choose_basis-requires c =
    let a = c.args in
    let walk = c.put_walk-count in
    let kept = c.shifts_of.auto.out in
    let room = c.requires.w_in_bounds in record {
      count_in_bounds = (
        omega (arith, walk.ensures.value, walk.auto.out, room.0),
        omega (arith, walk.ensures.value, kept, room.1),
        search rules,
        search rules,
        search rules,
        c.requires.n_le_list_inputs.1,
      );
      walked = walked a.n a.w a.candidates.now _ _ walk.ensures.out_after walk.ensures.value;
    }

pub returns : goal.returns
returns c =
    let a = c.args in
    let walk = c.put_walk-count in
    let f = of_rows a.missing (rows_of a.masks.now a.values.now a.words.now) in
    let h = walked a.n a.w a.candidates.now _ _ walk.ensures.out_after walk.ensures.value in
    found f a.n a.w c.requires.n_le_list_inputs.1 _ (value-agree _ _ _ _ h (shift f a.n) _ _ c.shifts_of.ensures) _ _ _ _ _
    c.choose_basis.ensures

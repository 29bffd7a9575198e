-- `moved_rows::replay_rows` meets its contract: what was laid at the front is the list. Assumes nothing.
use native.Mathlib.Omega.{arith}
use Rattle.block.specs.Limits.{given_rows}
use Rattle.moved_rows.specs.Put.{rows-laid}
use Rattle.moved_rows.proofs.replay_rows.Goals as goal

pub put_list-requires : goal.put_list-requires
put_list-requires c =
    let list = c.requires.listed in
    let room = c.requires.room in record {
      count_in_bounds = (omega arith, omega arith, omega arith);
      count_in_bounds_2 = (omega arith, omega arith, omega arith);
    }

pub move_rows-requires : goal.move_rows-requires
move_rows-requires c =
    let room = c.requires.room in
    let kept = c.put_list.auto in record {
      n_le_list_inputs = (c.requires.n_le_list_inputs.0, c.requires.n_le_list_inputs.1, omega (arith, c.requires.listed.few), c.requires.n_le_list_inputs.2);
      room = record { masks-room = omega arith; values-room = omega arith; words-room = omega arith };
    }

pub returns : goal.returns
returns c =
    let a = c.args in
    rw (rows-laid given_rows a.masks.now a.values.now a.words.now _ _ _ _ _ _ c.requires.listed c.put_list.ensures) at c.move_rows.ensures

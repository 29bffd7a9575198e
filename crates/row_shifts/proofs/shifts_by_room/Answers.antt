-- `row_shifts::shifts_by_room` meets its contract: the room is enough for the cubes, of a short list, of one that is
-- not long, and of any. Assumes nothing.
use native.Mathlib.Omega.{arith}
use Rattle.block.specs.Limits.{given_rows}
use Rattle.row_shifts.specs.Stored.{roomy-few}
use Rattle.row_shifts.proofs.shifts_by_room.Goals as goal

pub shifts_in_room-requires : goal.shifts_in_room-requires
shifts_in_room-requires c =
    record {
      n_le_list_inputs = c.requires.n_le_list_inputs;
      disjoint = c.requires.disjoint;
      roomy = roomy-few _ 16 136 136 136 c.if-masks-le-FEW_ROWS.true (omega arith, omega arith, omega arith);
      places_in_bounds = c.requires.places_in_bounds;
    }

pub shifts_in_room-requires-then-masks-le-SOME_ROWS : goal.shifts_in_room-requires-then-masks-le-SOME_ROWS
shifts_in_room-requires-then-masks-le-SOME_ROWS c =
    record {
      n_le_list_inputs = c.requires.n_le_list_inputs;
      disjoint = c.requires.disjoint;
      roomy = roomy-few _ 64 2080 2080 2080 c.if-masks-le-SOME_ROWS.true (omega arith, omega arith, omega arith);
      places_in_bounds = c.requires.places_in_bounds;
    }

pub shifts_in_room-requires-2 : goal.shifts_in_room-requires-2
shifts_in_room-requires-2 c =
    record {
      n_le_list_inputs = c.requires.n_le_list_inputs;
      disjoint = c.requires.disjoint;
      roomy = roomy-few _ given_rows 8256 8256 8256 c.requires.n_le_list_inputs.1.few (omega arith, omega arith, omega arith);
      places_in_bounds = c.requires.places_in_bounds;
    }

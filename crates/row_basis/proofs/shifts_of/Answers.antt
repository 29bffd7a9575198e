-- `row_basis::shifts_of` meets its contract: both ways give R. Assumes nothing.
use Rattle.row_basis.proofs.shifts_of.Goals as goal

pub light_shifts-requires : goal.light_shifts-requires
light_shifts-requires c =
    record {
      n_le_list_inputs = (c.requires.n_le_list_inputs.0, c.is_by_number.ensures c.if-is_by_number.true, c.requires.n_le_list_inputs.1);
      disjoint = c.requires.disjoint;
      places_in_bounds = c.requires.places_in_bounds;
      by_index = c.requires.by_index;
    }

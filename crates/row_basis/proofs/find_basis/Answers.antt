-- `row_basis::find_basis` meets its contract: the room is enough for the walk, with at most 8 inputs, with a weight limit of at most 3,
-- and with any. Assumes nothing.
use native.Mathlib.Omega.{arith}
use lib.Pow.{pow_mono}
use Rattle.walks.specs.Walk.{walk-below}
use Rattle.walks.specs.Few.{walk-few}
use Rattle.row_basis.proofs.find_basis.Goals as goal

pub find_basis_in-requires : goal.find_basis_in-requires
find_basis_in-requires c =
    let short = walk-below c.args.n c.args.w in
    let most = pow_mono c.if-n-le8.true in
    record {
      n_le_list_inputs = c.requires.n_le_list_inputs;
      w_in_bounds = (omega arith, omega arith);
      listed = c.requires.listed;
      disjoint = c.requires.disjoint;
    }

pub find_basis_in-requires-then-w-le-PRINTED_LIMIT : goal.find_basis_in-requires-then-w-le-PRINTED_LIMIT
find_basis_in-requires-then-w-le-PRINTED_LIMIT c =
    let few = walk-few c.args.n c.args.w c.requires.n_le_list_inputs.0 c.if-w-le-PRINTED_LIMIT.true in
    record {
      n_le_list_inputs = c.requires.n_le_list_inputs;
      w_in_bounds = (omega arith, omega arith);
      listed = c.requires.listed;
      disjoint = c.requires.disjoint;
    }

pub find_basis_in-requires-2 : goal.find_basis_in-requires-2
find_basis_in-requires-2 c =
    let short = walk-below c.args.n c.args.w in
    let most = pow_mono c.requires.n_le_list_inputs.0 in
    record {
      n_le_list_inputs = c.requires.n_le_list_inputs;
      w_in_bounds = (omega arith, omega arith);
      listed = c.requires.listed;
      disjoint = c.requires.disjoint;
    }

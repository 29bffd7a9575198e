-- `light_shifts::add_pair` meets its contract: the parts that it hands on are those of the pair's cube. Assumes nothing.
use native.Mathlib.Omega.{arith}
use lib.Bits.{bit_and, bit_xor, bit_or, and_le_l}
use lib.Count.{ones}
use lib.Dec.{eqb}
use Rattle.slices.specs.Places.{at}
use Rattle.light_shifts.specs.Adding.{part-again, weight-most}
use Rattle.light_shifts.proofs.add_pair.Goals as goal

pub add_light-requires : goal.add_light-requires
add_light-requires c =
    let p = c.requires in
    let mask = at c.args.masks.now c.args.i in
    let mask2 = at c.args.masks.now c.args.j in
    let small = weight-most c.args.n (ones (bit_or mask mask2)) c.args.times (eqb c.args.i c.args.j) p.n_le_list_inputs.0 p.i_bound.2 in record {
      n_le_list_inputs = (
        p.n_le_list_inputs.0,
        p.n_le_list_inputs.1,
        omega (arith, p.i_bound.0, and_le_l mask mask2),
        part-again (bit_and mask mask2) (bit_xor (at c.args.values.now c.args.i) (at c.args.values.now c.args.j)),
        omega (arith, c.weight_of-weight.ensures, small),
      );
      acc_len = p.acc_len;
    }
